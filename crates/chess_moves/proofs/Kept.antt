-- The squares that keep a king from each man of a set.
use Rattle.std.proofs.Common.{◌≡◌, ℕ, ◌<◌, Bool, true, false, not, ◌&&◌, ◌||◌, refl, ap, ◌∙◌, eqb, bit_and}
use Rattle.std.specs.Int.{bit_at}
use Rattle.std.proofs.lemmas.Nat.Bits.{bit_at_ones, bit_at-zero}
use Rattle.std.proofs.lemmas.Bool.{eqb-true, eq-eqb, false_from_ne_true, and_parts}
use Rattle.square_sets.specs.Members.{has}
use Rattle.square_sets.specs.BitScan.{IsSplit}
use Rattle.chess_board.specs.Squares.{any_below}
use Rattle.chess_moves.specs.inside.Directions.{stands_between}
use Rattle.chess_moves.specs.inside.LegalityInfo.{gets_through}
use Rattle.chess_moves.proofs.SetBits.{has_and}
use Rattle.chess_moves.proofs.AnyLemmas.{any_same, any_or, any_none, any_at}

-- the first of a set, and the rest
pub any_first : (set rest : ℕ) (p : ℕ → Bool) (a : ℕ) → IsSplit set a rest
    → any_below 64 (λ s. has set s && p s) ≡ (p a || any_below 64 (λ s. has rest s && p s))
any_first set rest p a parts =
    any_same (λ s. has set s && p s) (λ s. (eqb s a && p s) || (has rest s && p s)) 64 (λ s l. split s l)
    ∙ any_or (λ s. eqb s a && p s) (λ s. has rest s && p s) 64
    ∙ ap (λ (x : Bool). x || any_below 64 (λ s. has rest s && p s)) single
  where
    cases : (e h q : Bool) → (e ≡ true → h ≡ true) → (h && q) ≡ (e && q || (not e && h) && q)
    cases true true true f = refl
    cases true true false f = refl
    cases true false q f = let n = f refl in cc
    cases false h q f = refl

    split : (s : ℕ) → s < 64 → (has set s && p s) ≡ ((eqb s a && p s) || (has rest s && p s))
    split s l = rw (parts.others s l) (cases (eqb s a) (has set s) (p s) (λ e. ap (has set) (eqb-true s a e) ∙ parts.lowest.there))

    single : any_below 64 (λ s. eqb s a && p s) ≡ p a
    single = (elim (p a) as (λ b. p a ≡ b → any_below 64 (λ s. eqb s a && p s) ≡ b) [
      | true ↦ λ e. any_at (λ s. eqb s a && p s) 64 a parts.lowest.on_board (let t = eq-eqb a a refl in rw (t, e))
      | false ↦ λ e. any_none (λ s. eqb s a && p s) 64 (λ s l. false_from_ne_true (eqb s a && p s) (λ h.
          let x = and_parts (eqb s a) (p s) h in let same : p s ≡ p a = ap p (eqb-true s a x.0) in let y = x.1 in cc))
    ]) refl

-- one attacker less to be kept from
pub kept_from : (allowed stop set a rest king t : ℕ) → IsSplit set a rest → has stop t ≡ (eqb t a || stands_between a king t)
    → (has (bit_and allowed stop) t && not (any_below 64 (λ a. has rest a && gets_through a king t)))
    ≡ (has allowed t && not (any_below 64 (λ a. has set a && gets_through a king t)))
kept_from allowed stop set a rest king t split stopped =
    let first = any_first set rest (λ a. gets_through a king t) a split in
    rw (has_and allowed stop t, stopped, first)
    (regrouped (has allowed t) (eqb t a || stands_between a king t) (any_below 64 (λ a. has rest a && gets_through a king t)))
  where
    regrouped : (x y r : Bool) → ((x && y) && not r) ≡ (x && not (not y || r))
    regrouped true true r = refl
    regrouped true false r = refl
    regrouped false y r = refl

pub has_all : (t : ℕ) → t < 64 → has 18446744073709551615 t ≡ true
has_all t l = let e : bit_at 18446744073709551615 t ≡ 1 = bit_at_ones 64 t l in rw e

pub none_left : (set : ℕ) (p : ℕ → Bool) → set ≡ 0 → any_below 64 (λ a. has set a && p a) ≡ false
none_left set p e = any_none (λ a. has set a && p a) 64 (λ s l. rw e (let z = bit_at-zero s in rw z))
