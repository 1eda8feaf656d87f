-- Lists of moves filtered, one after the other: how many there are, and that they rise.
use Rattle.std.proofs.Common.{◌≡◌, ℕ, zero, suc, ◌+◌, ◌<◌, ◌≤◌, Bool, true, false, cond, not, List, [], ◌∷◌, ◌++◌}
use Rattle.std.proofs.Common.{length, take, get_or, filter, append-nil, ap, sym, ◌∙◌, arith}
use Rattle.std.proofs.lemmas.List.Elements.{filter_more}
use Rattle.std.proofs.lemmas.List.Filters.{length-filter_more}
use Rattle.std.specs.List.{list_any}
use Rattle.chess_board.specs.Positions.{Setup}
use Rattle.chess_board.specs.Moves.{Move, move_place}
use Rattle.chess_moves.specs.inside.Listing.{legal_moves}
use Rattle.chess_moves.specs.Laws.{IsAbove, IsRising, LegalRise}
use Rattle.chess_problems.specs.SameProblems.{is_same_move}
use Rattle.uci_commands.specs.MoveSearches.{all_but}

pub kept_more : {X : Type 0} (p : X → Bool) (xs : List X) (i : ℕ) (x : X) (old new : List X)
    → i < length xs → x ≡ get_or xs i x → p x ≡ true → old ≡ filter p (take i xs)
    → new ≡ old ++ x ∷ [] → new ≡ filter p (take (i + 1) xs)
kept_more p xs i x old new on is passes e n = rw (filter_more p xs i x on) (rw (← is) (rw passes (rw (← e) n)))

pub left_out : {X : Type 0} (p : X → Bool) (xs : List X) (i : ℕ) (x : X) (old : List X)
    → i < length xs → x ≡ get_or xs i x → p x ≡ false → old ≡ filter p (take i xs)
    → old ≡ filter p (take (i + 1) xs)
left_out p xs i x old on is fails e = rw (filter_more p xs i x on) (rw (← is) (rw fails (rw (append-nil (filter p (take i xs))) e)))

few_kept : {X : Type 0} (p : X → Bool) (xs : List X) (i : ℕ) → length (filter p (take i xs)) ≤ length (filter p xs)
few_kept p [] zero = omega arith
few_kept p [] (suc i) = omega arith
few_kept p (x ∷ xs) zero = omega arith
few_kept p (x ∷ xs) (suc i) =
    let rest = few_kept p xs i in
    elim (p x) as (λ b. length (cond b (x ∷ filter p (take i xs)) (filter p (take i xs))) ≤ length (cond b (x ∷ filter p xs) (filter p xs))) [
      | true ↦ omega (arith, rest)
      | false ↦ rest
    ]

-- Where one more passes than there is room for, they are too many.
pub no_room : {X : Type 0} (p : X → Bool) (xs : List X) (i room : ℕ) (x : X) (old : List X)
    → i < length xs → x ≡ get_or xs i x → p x ≡ true → old ≡ filter p (take i xs) → length old ≡ room → room < length (filter p xs)
no_room p xs i room x old on is passes e full =
    let more : length (filter p (take (i + 1) xs)) ≡ length (filter p (take i xs)) + cond (p (get_or xs i x)) 1 0 =
    length-filter_more p xs i x on in
    let one : length (filter p (take (i + 1) xs)) ≡ length (filter p (take i xs)) + 1 =
    more ∙ ap (λ b. length (filter p (take i xs)) + cond b 1 0) (sym (ap p is) ∙ passes) in
    let old_is : length (filter p (take i xs)) ≡ room = sym (ap length e) ∙ full in
    let most = few_kept p xs (i + 1) in
    omega (arith, one, old_is, most)

module _ (f : Move → Bool) where
  above_kept : (place : ℕ) (xs : List Move) → IsAbove place xs → IsAbove place (filter f xs)
  above_kept place [] h = tt
  above_kept place (x ∷ xs) h =
      let rest = above_kept place xs h.1 in
      elim (f x) as (λ b. IsAbove place (cond b (x ∷ filter f xs) (filter f xs))) [ true ↦ (h.0, rest) | false ↦ rest ]

  rising_kept : (xs : List Move) → IsRising xs → IsRising (filter f xs)
  rising_kept [] h = tt
  rising_kept (x ∷ xs) h =
      let rest = rising_kept xs h.1 in
      elim (f x) as (λ b. IsRising (cond b (x ∷ filter f xs) (filter f xs))) [ true ↦ (above_kept (move_place x) xs h.0, rest) | false ↦ rest ]

pub rest_rises : LegalRise → (p : Setup) (moves items : List Move) → items ≡ all_but p moves → IsRising items
unfolding all_but
rest_rises rise p moves items e = rw e (rising_kept (λ m. not (list_any (is_same_move m) moves)) (legal_moves p) (rise p))
