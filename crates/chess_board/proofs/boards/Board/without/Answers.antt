use Rattle.std.proofs.Common.{◌<◌, ◌∷◌, [], None, ap, length-set, set, refl, ◌∙◌, arith}
use Rattle.std.specs.Prelude.{slice_index}
use Rattle.chess_board.specs.declared.men.Colour.TheVariants.{White, Black}
use Rattle.chess_board.specs.declared.men.Kind.TheVariants.{Pawn, Knight, Bishop, Rook, Queen, King}
use Rattle.chess_board.specs.Men.{is_of}
use Rattle.chess_board.specs.inside.Boards.{is_of_kind, AreWordsOf}
use Rattle.chess_board.proofs.BoardWords.{AreWordsOf-shown, word_of-cleared, men_of-AreWordsOf, AreTheirWords-AreWordsOf}
use Rattle.chess_board.proofs.boards.Board.without.Goals as goal

words : (c : goal.After-without-8) → AreWordsOf (set c.args.self.now c.args.square None) (record {
  by_colour = c.without.result ∷ c.without-2.result ∷ [];
  by_kind = c.without-3.result ∷ c.without-4.result ∷ c.without-5.result ∷ c.without-6.result ∷ c.without-7.result ∷ c.without-8.result ∷ [];
})
words c =
    let men = c.args.self.now in
    let s = c.args.square in
    let i = c.index-index.result in
    let here = c.index-index.ensures.number in
    let h = AreWordsOf-shown men c.self.inside c.self.view_is c.self.invariant in
    let on : s < 64 = omega arith in
    record {
      squares = length-set men s None ∙ h.squares;
      colours = λ j.
          word_of-cleared (is_of White) men (slice_index c.self.inside.by_colour 0) c.without.result s i refl h.squares on here
          (ap (λ l. slice_index l 0) h.colours) c.without.type_inv c.without.ensures j
          ∷ word_of-cleared (is_of Black) men (slice_index c.self.inside.by_colour 1) c.without-2.result s i refl h.squares on
          here (ap (λ l. slice_index l 1) h.colours) c.without-2.type_inv c.without-2.ensures j
          ∷ [];
      kinds = λ j.
          word_of-cleared (is_of_kind Pawn) men (slice_index c.self.inside.by_kind 0) c.without-3.result s i refl h.squares on
          here (ap (λ l. slice_index l 0) h.kinds) c.without-3.type_inv c.without-3.ensures j
          ∷ word_of-cleared (is_of_kind Knight) men (slice_index c.self.inside.by_kind 1) c.without-4.result s i refl h.squares on
          here (ap (λ l. slice_index l 1) h.kinds) c.without-4.type_inv c.without-4.ensures j
          ∷ word_of-cleared (is_of_kind Bishop) men (slice_index c.self.inside.by_kind 2) c.without-5.result s i refl h.squares on
          here (ap (λ l. slice_index l 2) h.kinds) c.without-5.type_inv c.without-5.ensures j
          ∷ word_of-cleared (is_of_kind Rook) men (slice_index c.self.inside.by_kind 3) c.without-6.result s i refl h.squares on
          here (ap (λ l. slice_index l 3) h.kinds) c.without-6.type_inv c.without-6.ensures j
          ∷ word_of-cleared (is_of_kind Queen) men (slice_index c.self.inside.by_kind 4) c.without-7.result s i refl h.squares on
          here (ap (λ l. slice_index l 4) h.kinds) c.without-7.type_inv c.without-7.ensures j
          ∷ word_of-cleared (is_of_kind King) men (slice_index c.self.inside.by_kind 5) c.without-8.result s i refl h.squares on
          here (ap (λ l. slice_index l 5) h.kinds) c.without-8.type_inv c.without-8.ensures j
          ∷ [];
    }

pub invariant_of-result : goal.invariant_of-result
invariant_of-result c = AreTheirWords-AreWordsOf _ _ (words c)

pub returns : goal.returns
returns c = men_of-AreWordsOf _ _ (words c)
