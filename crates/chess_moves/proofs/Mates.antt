-- Mate, told from the king's moves and those of the other men.
use Rattle.std.proofs.Common.{◌≡◌, ℕ, ◌+◌, ◌^◌, ◌<◌, Bool, true, false, not, ◌&&◌, ◌||◌, eqb, cond, zero-add}
use Rattle.std.proofs.Common.{◌≤◌, length, refl, sym, ap, ◌∙◌, arith, w64, bit_and, zero, suc}
use Rattle.std.specs.Prelude.{nat_lt}
use Rattle.std.specs.Int.{bit_not}
use Rattle.std.proofs.lemmas.Bool.{eqb-true, eqb-false, ne_eqb, and_parts, lt-ltb, ltb-true, ltb-false}
use Rattle.square_sets.specs.Members.{has, members}
use Rattle.chess_board.specs.declared.men.Colour.{Colour}
use Rattle.chess_board.specs.declared.men.Colour.TheVariants.{White, Black}
use Rattle.chess_board.specs.declared.men.Kind.TheVariants.{King}
use Rattle.chess_board.specs.Attacks.{is_in_check}
use Rattle.chess_board.specs.Men.{is_of, man_of}
use Rattle.chess_board.specs.Positions.{Setup, man_at}
use Rattle.chess_board.specs.Sets.{IsSetOf}
use Rattle.chess_board.specs.MakeMove.{after_setup}
use Rattle.chess_board.specs.Moves.{Move}
use Rattle.chess_moves.specs.declared.legality_info.LegalityInfo.{LegalityInfo}
use Rattle.chess_moves.specs.inside.LegalityInfo.{IsLegalityInfoOf}
use Rattle.chess_moves.specs.GivesCheck.{gives_check}
use Rattle.chess_moves.specs.Verdicts.{has_legal_move, is_mate}
use Rattle.chess_moves.specs.inside.MoveGeneration.{moves_of_men, HaveOwnMen}
use Rattle.chess_moves.proofs.SetBits.{has_less}
use Rattle.chess_moves.proofs.Tallies.{many_from, many_below, many_below_suc, many_none, many_parts}
use Rattle.chess_moves.proofs.Walks.{legal_of_men}

own_king : (c : Colour) → is_of c (man_of c King) ≡ true
own_king White = refl
own_king Black = refl

-- The set holds the king's square alone.
abbrev pub IsKing : ℕ → ℕ → Type 0
IsKing set king = (s : ℕ) → s < 64 → has set s ≡ eqb s king

pub king_is_own : (info : LegalityInfo) (p : Setup) (set : ℕ) → IsLegalityInfoOf info p → IsKing set info.king → HaveOwnMen set p
king_is_own info p set h is s l on =
    let here : eqb s info.king ≡ true = sym (is s l) ∙ on in
    ap (λ q. is_of p.side (man_at p.men q)) (eqb-true s info.king here) ∙ ap (is_of p.side) h.king ∙ own_king p.side

pub others_are_own : (p : Setup) (own set : ℕ) → set < 2 ^ 64 → IsSetOf own (is_of p.side) p.men → HaveOwnMen (bit_and own (bit_not w64 set)) p
others_are_own p own set fits is s l on = sym (is s l) ∙ (and_parts (has own s) (not (has set s)) (sym (has_less own set s fits l) ∙ on)).0

none_below : (p : Setup) (set k n : ℕ) → ((s : ℕ) → s < n → has set s ≡ eqb s k) → n ≤ k → many_below p set n ≡ 0
none_below p set k zero is l = many_none p set
none_below p set k (suc n) is l =
    let out : has set n ≡ false = is n (omega arith) ∙ ne_eqb n k (omega arith) in
    many_below_suc p set n ∙ ap (λ b. many_below p set n + cond b (many_from p n) 0) out
    ∙ omega (arith, none_below p set k n (λ s h. is s (omega arith)) (omega arith))

one_below : (p : Setup) (set k n : ℕ) → ((s : ℕ) → s < n → has set s ≡ eqb s k) → k < n → many_below p set n ≡ many_from p k
one_below p set k zero is l = absurd (omega arith)
one_below p set k (suc n) is l = (elim (eqb n k) as (λ b. eqb n k ≡ b → many_below p set (suc n) ≡ many_from p k) [
  | true ↦ λ e.
      let same = eqb-true n k e in
      let on : has set n ≡ true = is n (omega arith) ∙ e in
      many_below_suc p set n ∙ ap (λ b. many_below p set n + cond b (many_from p n) 0) on
      ∙ ap (λ x. x + many_from p n) (none_below p set k n (λ s h. is s (omega arith)) (omega arith))
      ∙ zero-add (many_from p n) ∙ ap (many_from p) same
  | false ↦ λ e.
      let apart = eqb-false n k e in
      let out : has set n ≡ false = is n (omega arith) ∙ e in
      many_below_suc p set n ∙ ap (λ b. many_below p set n + cond b (many_from p n) 0) out
      ∙ omega (arith, one_below p set k n (λ s h. is s (omega arith)) (omega arith))
]) refl

-- The king's moves and those of the other men are all.
pub moves_apart : (info : LegalityInfo) (p : Setup) (set : ℕ) → IsLegalityInfoOf info p → set < 2 ^ 64 → IsKing set info.king
    → has_legal_move p ≡ (nat_lt 0 (many_from p info.king) || nat_lt 0 (length (moves_of_men p (members (bit_and info.own (bit_not w64 set))))))
unfolding members
moves_apart info p set h fits is =
    ap (λ (n : ℕ). nat_lt 0 n) (ap length (legal_of_men p info.own h.own)
    ∙ many_parts p info.own set fits (λ s l on. h.own s l ∙ king_is_own info p set h is s l on)
    ∙ ap (λ n. n + length (moves_of_men p (members (bit_and info.own (bit_not w64 set))))) (one_below p set info.king 64 is h.on_board))
    ∙ some_of (many_from p info.king) (length (moves_of_men p (members (bit_and info.own (bit_not w64 set)))))
  where
    some_of : (a b : ℕ) → nat_lt 0 (a + b) ≡ (nat_lt 0 a || nat_lt 0 b)
    some_of a b = (elim (nat_lt 0 a) as (λ x. nat_lt 0 a ≡ x → nat_lt 0 (a + b) ≡ (x || nat_lt 0 b)) [
      | true ↦ λ e. let some = ltb-true 0 a e in lt-ltb 0 (a + b) (omega arith)
      | false ↦ λ e. let none = ltb-false 0 a e in let same : a + b ≡ b = omega arith in ap (λ (n : ℕ). nat_lt 0 n) same
    ]) refl

-- Where the king has a move, there is one.
pub king_moves : (info : LegalityInfo) (p : Setup) → IsLegalityInfoOf info p → nat_lt 0 (many_from p info.king) ≡ true → has_legal_move p ≡ true
unfolding members
king_moves info p h some =
    let own : has info.own info.king ≡ true = h.own info.king h.on_board ∙ ap (is_of p.side) h.king ∙ own_king p.side in
    let few = ltb-true 0 (many_from p info.king) some in
    lt-ltb 0 _ (omega (arith, ap length (legal_of_men p info.own h.own), from_below info.own info.king 64 h.on_board own))
  where
    from_below : (set k n : ℕ) → k < n → has set k ≡ true → many_from p k ≤ many_below p set n
    from_below set k zero l on = absurd (omega arith)
    from_below set k (suc n) l on = (elim (eqb n k) as (λ b. eqb n k ≡ b → many_from p k ≤ many_below p set (suc n)) [
      | true ↦ λ e.
          let same = eqb-true n k e in
          let here : cond (has set n) (many_from p n) 0 ≡ many_from p k = rw same (rw on refl) in
          omega (arith, many_below_suc p set n, here)
      | false ↦ λ e. let apart = eqb-false n k e in omega (arith, many_below_suc p set n, from_below set k n (omega arith) on)
    ]) refl

pub mate_by : (p : Setup) (check : Bool) (moves : Bool) → is_in_check p.men p.side ≡ check
    → has_legal_move p ≡ moves → is_mate p ≡ (check && not moves)
mate_by p check moves e f = rw (e, f) refl

-- No move without check mates.
pub no_mate : (p : Setup) (m : Move) → gives_check p m ≡ false → is_mate (after_setup p m) ≡ false
unfolding gives_check
no_mate p m none = rw none refl
