-- The moves of a side's king are those from its one square.
use Rattle.std.proofs.Common.{◌≡◌, ℕ, zero, suc, ◌+◌, ◌*◌, ◌%◌, ◌^◌, ◌<◌, ◌≤◌, Bool, true, false, ◌&&◌}
use Rattle.std.proofs.Common.{eqb, ltb, cond, filter, length, refl, ap, subst, ◌∙◌, arith, bit_or, w64}
use Rattle.std.proofs.lemmas.Bool.{eqb-true, eqb-false, false_from_ne_true}
use Rattle.std.proofs.lemmas.Bool.Decides.{nat_tests}
use Rattle.std.proofs.lemmas.Nat.Bits.{bit_at-zero, bit_at_set_same, bit_at_set_other}
use Rattle.square_sets.specs.Members.{has, members}
use Rattle.chess_board.specs.declared.men.Colour.{Colour}
use Rattle.chess_board.specs.declared.men.Kind.TheVariants.{King}
use Rattle.chess_board.specs.Legality.{is_legal}
use Rattle.chess_board.specs.Men.{is_man}
use Rattle.chess_board.specs.Positions.{Setup, man_at}
use Rattle.chess_board.specs.Sets.{IsSetOf}
use Rattle.chess_moves.specs.declared.legality_info.LegalityInfo.{LegalityInfo}
use Rattle.chess_moves.specs.inside.LegalityInfo.{IsLegalityInfoOf}
use Rattle.chess_moves.specs.inside.Listing.{moves_to}
use Rattle.chess_moves.specs.inside.MoveGeneration.{moves_of_men}
use Rattle.chess_moves.proofs.MovedKings.{king_of_scene}
use Rattle.chess_moves.proofs.OwnColours.{same_colour}
use Rattle.chess_moves.proofs.Tallies.{many_from, many_below, many_below_suc, many_none}

-- a set of one square
abbrev pub one_square : ℕ → ℕ
one_square k = bit_or 0 (1 * 2 ^ k % 2 ^ 64)

has-one_square : (k s : ℕ) → k < 64 → s < 64 → has (one_square k) s ≡ eqb s k
has-one_square k s l h = (elim (eqb s k) as (λ b. eqb s k ≡ b → has (one_square k) s ≡ b) [
  | true ↦ λ e. let same = eqb-true s k e in rw same (rw (bit_at_set_same w64 0 k l) refl)
  | false ↦ λ e. rw (bit_at_set_other w64 0 k l s (eqb-false s k e), bit_at-zero s) refl
]) refl

-- the king's set is that of its square
pub king_alone : (info : LegalityInfo) (p : Setup) → IsLegalityInfoOf info p → IsSetOf (one_square info.king) (is_man info.side King) p.men
king_alone info p h =
    let one = king_of_scene info p h in
    let there : is_man info.side King (man_at p.men info.king) ≡ true =
    ap (λ place. is_man info.side King place) one.here ∙ ap (λ (x : Bool). x && true) (same_colour info.side p.side h.side) in
    λ s l. has-one_square info.king s h.on_board l
    ∙ ((elim (eqb s info.king) as (λ b. eqb s info.king ≡ b → b ≡ is_man info.side King (man_at p.men s)) [
      | true ↦ λ e. let same = eqb-true s info.king e in rw same (rw there refl)
      | false ↦ λ e. let ne = eqb-false s info.king e in rw (false_from_ne_true (is_man info.side King (man_at p.men s))
          (λ is. ne (one.alone s l (subst (λ (c : Colour). is_man c King (man_at p.men s) ≡ true) h.side is)))) refl
    ]) refl)

many_alone : (p : Setup) (set k n : ℕ) → n ≤ 64 → ((s : ℕ) → s < 64 → has set s ≡ eqb s k) → many_below p set n ≡ cond (ltb k n) (many_from p k) 0
many_alone p set k zero h alone = let none : ltb k 0 ≡ false = grind (arith, nat_tests) in rw none (many_none p set)
many_alone p set k (suc n) h alone =
    many_below_suc p set n
    ∙ ((elim (eqb n k) as (λ b. eqb n k ≡ b → many_below p set n + cond (has set n) (many_from p n) 0 ≡ cond (ltb k (suc n)) (many_from p k) 0) [
      | true ↦ λ e.
          let same = eqb-true n k e in
          let there : has set n ≡ true = alone n (omega arith) ∙ e in
          let before : ltb k n ≡ false = grind (arith, nat_tests) in
          let now : ltb k (suc n) ≡ true = grind (arith, nat_tests) in
          let as_many : many_from p n ≡ many_from p k = ap (many_from p) same in
          rw (many_alone p set k n (omega arith) alone, there, before, now) (omega (arith, as_many))
      | false ↦ λ e.
          let ne = eqb-false n k e in
          let off : has set n ≡ false = alone n (omega arith) ∙ e in
          let still : ltb k (suc n) ≡ ltb k n = grind (arith, nat_tests) in
          rw (many_alone p set k n (omega arith) alone, off, still) (omega arith)
    ]) refl)

pub many_of_king : (p : Setup) (k : ℕ) → k < 64 → length (moves_of_men p (members (one_square k))) ≡ length (filter (is_legal p) (moves_to k 64))
unfolding members
many_of_king p k l =
    let below : ltb k 64 ≡ true = grind (arith, nat_tests) in
    many_alone p (one_square k) k 64 (omega arith) (λ s h. has-one_square k s l h) ∙ ap (λ (b : Bool). cond b (many_from p k) 0) below
