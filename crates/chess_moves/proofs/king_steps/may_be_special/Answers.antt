use Rattle.std.proofs.Common.{◌≡◌, ℕ, ◌&&◌, eqb, false, true, sym, ap, ◌∙◌, bit_and}
use Rattle.std.proofs.lemmas.Bool.{eqb-true, not-false}
use Rattle.square_sets.specs.Members.{has}
use Rattle.chess_moves.proofs.SetBits.{has_and, has_none}
use Rattle.chess_moves.proofs.king_steps.may_be_special.Goals as goal

-- a member of one of two sets that have none in common is none of the other
apart : (a b t : ℕ) → bit_and a b ≡ 0 → has a t ≡ true → has b t ≡ false
apart a b t none there = ap (λ x. x && has b t) (sym there) ∙ sym (has_and a b t) ∙ has_none (bit_and a b) t none

pub returns-else-before_last-ne0 : goal.returns-else-before_last-ne0
returns-else-before_last-ne0 c = λ none.
    let kings : ℕ = c.men-else-before_last-ne0.result in
    let home : ℕ = c.single-home.result in
    let empty : bit_and kings home ≡ 0 = eqb-true (bit_and kings home) 0 (not-false (eqb (bit_and kings home) 0) none) in
    record {
      pawns = λ o on is. sym (c.rank_before_last.ensures o on)
          ∙ apart c.men.result c.rank_before_last.result o c.if-before_last-ne0.false (c.men.ensures o on ∙ is);
      king = λ o on is. ap (eqb o) (sym (c.king_home.ensures)) ∙ ap (eqb o) (sym c.index.ensures.number) ∙ sym (c.single-home.ensures o on)
          ∙ apart kings home o empty (c.men-else-before_last-ne0.ensures o on ∙ is);
    }
