use Rattle.std.proofs.Common.{◌≡◌, ℕ, ◌<◌, Bool, false, true, ◌||◌, eqb, sym, ap, subst, ◌∙◌, arith, bit_and, w64, inl, inr, refl}
use Rattle.std.proofs.lemmas.Bool.{eq-eqb, eqb-true, false_from_ne_true, or_cases}
use Rattle.std.specs.Int.{bit_not}
use Rattle.square_sets.specs.Members.{has}
use Rattle.chess_board.specs.declared.men.Colour.{Colour}
use Rattle.chess_board.specs.declared.men.Kind.{Kind}
use Rattle.chess_board.specs.declared.men.Kind.TheVariants.{Pawn, Knight, Bishop, Rook, Queen, King}
use Rattle.chess_board.specs.Men.{is_of}
use Rattle.chess_board.specs.Positions.{man_at}
use Rattle.chess_moves.specs.inside.EscapeSquares.{AreMissedBy}
use Rattle.chess_moves.proofs.KingEscapes.{stepped_free}
use Rattle.chess_moves.proofs.escapes.refuge.Goals as goal

pub king_may_cover-requires : goal.king_may_cover-requires
king_may_cover-requires c = record { sound = (c.requires.steps.each c.args.square c.requires.on_board c.requires.step).sound }

pub returns : goal.returns
returns c =
    let p = c.args.position.now in
    let steps = c.args.steps in
    let f : ℕ = c.args.square in
    let step = c.requires.steps.each f c.requires.on_board c.requires.step in
    let near : ℕ = c.leap.result in
    let own : ℕ = c.all_of.result in
    let others : ℕ = c.without-others.result in
    let in_line : ℕ = steps.in_line in
    let block : ℕ = c.with-refuge.result in
    let lasting : ℕ = bit_and (bit_and near (bit_not w64 others)) (bit_not w64 in_line) in
    let parts : (g : ℕ) → g < 64 → has lasting g ≡ true → (has near g ≡ true) × ((has others g ≡ false) × (has in_line g ≡ false)) =
    λ g l on. stepped_free near others in_line g (omega arith) (omega arith) l on in
    let there : (g : ℕ) → g < 64 → has block g ≡ (eqb g f || has lasting g) = λ g l. c.with-refuge.ensures g l in
    record {
      from = steps.king;
      step = step;
      plain = c.requires.steps.plain;
      here = there f c.requires.on_board ∙ rw (eqb-same f) refl;
      lasting = lasting;
      kept = λ g l on. there g l ∙ or_second (eqb g f) (has lasting g) on;
      parts = λ g l on apart. sym (or_first (eqb g f) (has lasting g) (false_from_ne_true (eqb g f) (λ e. apart (eqb-true g f e)))) ∙ sym (there g l) ∙ on;
      near = λ g l on. sym (c.leap.ensures g l) ∙ (parts g l on).0;
      free = λ g l on apart. false_from_ne_true (is_of steps.colour (man_at p.men g)) (λ is.
          let mine : has own g ≡ true = c.all_of.ensures p.men steps.colour c.side_men_of.ensures g l ∙ is in
          let off : eqb g steps.king ≡ false = false_from_ne_true (eqb g steps.king) (λ e. apart (sym (eqb-true g steps.king e))) in
          let there : has others g ≡ true = c.without-others.ensures g l ∙ rw (off, mine) refl in
          let none = (parts g l on).1.0 in absurd (cc));
      clear = λ g l on taken a on_a. c.requires.steps.lines g l
          (elim (or_cases (eqb g f) (has lasting g) (sym (there g l) ∙ on)) [
            | inl e ↦ ap (has in_line) (eqb-true g f e) ∙ c.requires.steps.clear f c.requires.on_board c.requires.step
            | inr e ↦ (parts g l e).1.1
          ]) taken a on_a;
      missed = λ (asked : Kind). subst (λ (by : Colour). AreMissedBy block by p asked) c.other-enemy.ensures
          (elim asked as (λ (asked : Kind). AreMissedBy block c.other-enemy.result p asked) [
            | Queen ↦ c.may_cover.ensures c.if-may_cover.false
            | Rook ↦ c.may_cover-2.ensures c.if-may_cover-2.false
            | Bishop ↦ c.may_cover-3.ensures c.if-may_cover-3.false
            | Knight ↦ c.may_cover-4.ensures c.if-may_cover-4.false
            | Pawn ↦ c.may_cover-5.ensures c.if-may_cover-5.false
            | King ↦ c.king_may_cover.ensures c.if-king_may_cover.false
          ]);
    }
  where
    eqb-same : (n : ℕ) → eqb n n ≡ true
    eqb-same n = eq-eqb n n refl

    or_second : (x y : Bool) → y ≡ true → (x || y) ≡ true
    or_second true y h = refl
    or_second false y h = h

    or_first : (x y : Bool) → x ≡ false → (x || y) ≡ y
    or_first true y h = absurd (cc)
    or_first false y h = refl
