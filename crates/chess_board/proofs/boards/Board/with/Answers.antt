use Rattle.std.proofs.Common.{◌≡◌, ℕ, ◌<◌, Bool, cond, eqb, ◌∷◌, [], Option, Some, ap, length-set, set, ◌∙◌, arith}
use Rattle.std.specs.Prelude.{slice_index}
use Rattle.square_sets.specs.Members.{has}
use Rattle.chess_board.specs.declared.men.Man.{Man}
use Rattle.chess_board.specs.declared.men.Colour.TheVariants.{White, Black}
use Rattle.chess_board.specs.declared.men.Kind.TheVariants.{Pawn, Knight, Bishop, Rook, Queen, King}
use Rattle.chess_board.specs.Men.{is_of}
use Rattle.chess_board.specs.inside.Boards.{is_of_kind, AreWordsOf}
use Rattle.chess_board.proofs.BoardWords.{AreWordsOf-shown, men_of-AreWordsOf, AreTheirWords-AreWordsOf}
use Rattle.chess_board.proofs.MenSets.{word_of-set}
use Rattle.chess_board.proofs.boards.Board.with.Goals as goal

words : (c : goal.After-changed-8) → AreWordsOf (set c.args.self.now c.args.square (Some c.args.man)) (record {
  by_colour = c.changed.result ∷ c.changed-2.result ∷ [];
  by_kind = c.changed-3.result ∷ c.changed-4.result ∷ c.changed-5.result ∷ c.changed-6.result ∷ c.changed-7.result ∷ c.changed-8.result ∷ [];
})
words c =
    let men = c.args.self.now in
    let man : Man = c.args.man in
    let s = c.args.square in
    let at = c.index-index.result in
    let here : at ≡ s = c.index-index.ensures.number in
    let h = AreWordsOf-shown men c.self.inside c.self.view_is c.self.invariant in
    let on : s < 64 = omega arith in
    let put = λ (test : Option Man → Bool) (old new : ℕ) (there : Bool) (is : there ≡ test (Some man))
    (changed : (t : ℕ) → t < 64 → has new t ≡ cond (eqb t at) there (has old t)) (t : ℕ) (inside : t < 64).
    changed t inside ∙ ap (λ (x : ℕ). cond (eqb t x) there (has old t)) here ∙ ap (λ (b : Bool). cond (eqb t s) b (has old t)) is in
    record {
      squares = length-set men s (Some man) ∙ h.squares;
      colours = λ j.
          word_of-set (is_of White) men (slice_index c.self.inside.by_colour 0) c.changed.result s (Some man) h.squares on (ap (λ l. slice_index l 0) h.colours)
          (c.changed.type_inv, put (is_of White) (slice_index c.self.inside.by_colour 0) c.changed.result c.is_of_colour.result c.is_of_colour.ensures c.changed.ensures) j
          ∷ word_of-set (is_of Black) men (slice_index c.self.inside.by_colour 1) c.changed-2.result s (Some man) h.squares on (ap (λ l. slice_index l 1) h.colours)
          (c.changed-2.type_inv, put (is_of Black) (slice_index c.self.inside.by_colour 1) c.changed-2.result c.is_of_colour-2.result c.is_of_colour-2.ensures c.changed-2.ensures) j
          ∷ [];
      kinds = λ j.
          word_of-set (is_of_kind Pawn) men (slice_index c.self.inside.by_kind 0) c.changed-3.result s (Some man) h.squares on (ap (λ l. slice_index l 0) h.kinds)
          (c.changed-3.type_inv, put (is_of_kind Pawn) (slice_index c.self.inside.by_kind 0) c.changed-3.result c.is_of_kind.result c.is_of_kind.ensures c.changed-3.ensures) j
          ∷ word_of-set (is_of_kind Knight) men (slice_index c.self.inside.by_kind 1) c.changed-4.result s (Some man) h.squares on (ap (λ l. slice_index l 1) h.kinds)
          (c.changed-4.type_inv, put (is_of_kind Knight) (slice_index c.self.inside.by_kind 1) c.changed-4.result c.is_of_kind-2.result c.is_of_kind-2.ensures c.changed-4.ensures) j
          ∷ word_of-set (is_of_kind Bishop) men (slice_index c.self.inside.by_kind 2) c.changed-5.result s (Some man) h.squares on (ap (λ l. slice_index l 2) h.kinds)
          (c.changed-5.type_inv, put (is_of_kind Bishop) (slice_index c.self.inside.by_kind 2) c.changed-5.result c.is_of_kind-3.result c.is_of_kind-3.ensures c.changed-5.ensures) j
          ∷ word_of-set (is_of_kind Rook) men (slice_index c.self.inside.by_kind 3) c.changed-6.result s (Some man) h.squares on (ap (λ l. slice_index l 3) h.kinds)
          (c.changed-6.type_inv, put (is_of_kind Rook) (slice_index c.self.inside.by_kind 3) c.changed-6.result c.is_of_kind-4.result c.is_of_kind-4.ensures c.changed-6.ensures) j
          ∷ word_of-set (is_of_kind Queen) men (slice_index c.self.inside.by_kind 4) c.changed-7.result s (Some man) h.squares on (ap (λ l. slice_index l 4) h.kinds)
          (c.changed-7.type_inv, put (is_of_kind Queen) (slice_index c.self.inside.by_kind 4) c.changed-7.result c.is_of_kind-5.result c.is_of_kind-5.ensures c.changed-7.ensures) j
          ∷ word_of-set (is_of_kind King) men (slice_index c.self.inside.by_kind 5) c.changed-8.result s (Some man) h.squares on (ap (λ l. slice_index l 5) h.kinds)
          (c.changed-8.type_inv, put (is_of_kind King) (slice_index c.self.inside.by_kind 5) c.changed-8.result c.is_of_kind-6.result c.is_of_kind-6.ensures c.changed-8.ensures) j
          ∷ [];
    }

pub invariant_of-result : goal.invariant_of-result
invariant_of-result c = AreTheirWords-AreWordsOf _ _ (words c)

pub returns : goal.returns
returns c = men_of-AreWordsOf _ _ (words c)
