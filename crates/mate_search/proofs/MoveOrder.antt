-- What is found first in a list that rises comes first in the order of moves.
use Rattle.std.proofs.Common.{◌≡◌, ◌∙◌, ◌-◌, ℕ, zero, suc, ◌<◌, ◌≤◌, Bool, true, false, not, cond}
use Rattle.std.proofs.Common.{List, [], ◌∷◌, filter, find, Some, refl, ap, arith, inl, inr}
use Rattle.std.specs.List.{Contains}
use Rattle.std.proofs.lemmas.Bool.{cases_lt}
use Rattle.std.proofs.lemmas.List.Elements.{All-contains_itself}
use Rattle.chess_board.specs.Positions.{Setup}
use Rattle.chess_board.specs.Moves.{Move, move_place}
use Rattle.chess_board.specs.MakeMove.{after_setup}
use Rattle.chess_moves.specs.inside.Listing.{legal_moves}
use Rattle.chess_moves.specs.Laws.{IsAbove, IsRising, LegalRise}
use Rattle.mate_search.specs.Wins.{win, leaves_lost}
use Rattle.mate_search.specs.inside.Variation.{least_key, longest_defence}
use Rattle.mate_search.specs.PrincipalVariation.{IsFirstKey, IsLongestDefence}
use Rattle.mate_search.specs.inside.PartLaws.{KeysRise}
use Rattle.mate_search.proofs.Searches.{found_has}
use Rattle.mate_search.proofs.Known.{win_within_more, no_win_within_fewer}

above_each : (place : ℕ) (xs : List Move) (x : Move) → IsAbove place xs → Contains xs x → place < move_place x
above_each place [] x h (k, on, e) = absurd (omega arith)
above_each place (y ∷ ys) x h (zero, on, e) = rw e at h.0
above_each place (y ∷ ys) x h (suc k, on, e) = above_each place ys x h.1 (k, omega arith, e)

module _ (f : Move → Bool) where
  above_kept : (place : ℕ) (xs : List Move) → IsAbove place xs → IsAbove place (filter f xs)
  above_kept place [] h = tt
  above_kept place (x ∷ xs) h =
      let rest = above_kept place xs h.1 in
      elim (f x) as (λ b. IsAbove place (cond b (x ∷ filter f xs) (filter f xs))) [ true ↦ (h.0, rest) | false ↦ rest ]

  pub rising_kept : (xs : List Move) → IsRising xs → IsRising (filter f xs)
  rising_kept [] h = tt
  rising_kept (x ∷ xs) h =
      let rest = rising_kept xs h.1 in
      elim (f x) as (λ b. IsRising (cond b (x ∷ filter f xs) (filter f xs))) [ true ↦ (above_kept (move_place x) xs h.0, rest) | false ↦ rest ]

  find_passes : (xs : List Move) (x : Move) → find f xs ≡ Some x → f x ≡ true
  find_passes [] x e = cc
  find_passes (y ∷ ys) x e = (elim (f y) as (λ b. f y ≡ b → f x ≡ true) [
    | true ↦ λ t. let e' = rw t at e in let same : y ≡ x = cc in rw same at t
    | false ↦ λ t. find_passes ys x (rw t at e)
  ]) refl

  find_least : (xs : List Move) (x : Move) → IsRising xs → find f xs ≡ Some x → (z : Move) → Contains xs z → f z ≡ true → move_place x ≤ move_place z
  find_least [] x h e z (k, on, is) t = absurd (omega arith)
  find_least (y ∷ ys) x h e z (zero, on, is) t =
      let here : f y ≡ true = ap f is ∙ t in
      let e' = rw here at e in
      let same : x ≡ z = let e'' : y ≡ x = cc in cc in
      rw same (omega arith)
  find_least (y ∷ ys) x h e z (suc k, on, is) t = (elim (f y) as (λ b. f y ≡ b → move_place x ≤ move_place z) [
    | true ↦ λ u.
        let e' = rw u at e in
        let same : y ≡ x = cc in
        let above = above_each (move_place y) ys z h.0 (k, omega arith, is) in
        let above' : move_place x < move_place z = rw same at above in
        omega (arith, above')
    | false ↦ λ u. find_least ys x h.1 (rw u at e) z (k, omega arith, is) t
  ]) refl

pub keys_rise : KeysRise
keys_rise first p n rise = rising_kept (leaves_lost (n - 1) p) first rise

-- What is found first among first moves that rise is the first key.
pub first_key : (first : List Move) (p : Setup) (n : ℕ) (m : Move) → IsRising first → least_key first p n ≡ Some m → IsFirstKey first p n m
first_key first p n m rise e =
    let test = leaves_lost (n - 1) p in
    let among = found_has (Contains first) test first m (All-contains_itself first) e in (
      (among, find_passes test first m e),
      λ k key. find_least test first m rise e k key.0 key.1,
    )

-- The first reply that no mate within j meets is the longest defence of a defender that is lost with j + 1.
pub lasts_longest : LegalRise → (q : Setup) (j : ℕ) (r : Move) → ((s : Move) → Contains (legal_moves q) s
    → win (suc j) (after_setup q s) ≡ true) → longest_defence q j ≡ Some r → IsLongestDefence q r
lasts_longest rise q j r each e =
    let test : Move → Bool = λ x. not (win j (after_setup q x)) in
    let among = found_has (Contains (legal_moves q)) test (legal_moves q) r (All-contains_itself (legal_moves q)) e in
    let lasts : win j (after_setup q r) ≡ false = not_true (win j (after_setup q r)) (find_passes test (legal_moves q) r e) in (
      among,
      (λ s c longer. elim (cases_lt longer.0 (suc j)) [
        | inl within ↦ let none = no_win_within_fewer j longer.0 (after_setup q r) (omega arith) lasts in let wins = longer.1 in cc
        | inr beyond ↦ let wins = win_within_more (suc j) longer.0 (after_setup q s) (omega arith) (each s c) in let none = longer.2 in cc
      ]),
      (λ s c not_longer. (elim (win j (after_setup q s)) as (λ b. win j (after_setup q s) ≡ b → move_place r ≤ move_place s) [
        | true ↦ λ w. absurd (not_longer (j, w, lasts))
        | false ↦ λ w. find_least test (legal_moves q) r (rise q) e s c (ap not w)
      ]) refl),
    )
  where
    not_true : (b : Bool) → not b ≡ true → b ≡ false
    not_true true h = cc
    not_true false h = refl
