-- The legal moves rise in the order of moves.
use Rattle.std.proofs.Common.{ℕ, zero, suc, ◌+◌, ◌<◌, ◌≤◌, Bool, true, false, cond, List, [], ◌∷◌, ◌++◌, filter, None, arith}
use Rattle.chess_board.specs.Moves.{Move, move_place}
use Rattle.chess_board.specs.Legality.{is_legal}
use Rattle.chess_moves.specs.inside.Listing.{move_of, legal_moves, moves_between, moves_to, moves_below}
use Rattle.chess_moves.specs.Laws.{IsAbove, IsRising, LegalRise}

-- Each move of the list comes at this place or later, or before it.
abbrev IsFrom : ℕ → List Move → Type 0
IsFrom k [] = Unit {0}
IsFrom k (m ∷ ms) = (k ≤ move_place m) × IsFrom k ms

abbrev IsUnder : ℕ → List Move → Type 0
IsUnder k [] = Unit {0}
IsUnder k (m ∷ ms) = (move_place m < k) × IsUnder k ms

-- the place of the plain move, with which the moves from one square to another begin
abbrev first_place : ℕ → ℕ → ℕ
first_place o t = move_place (move_of o t None)

from_weaker : (j k : ℕ) (ms : List Move) → j ≤ k → IsFrom k ms → IsFrom j ms
from_weaker j k [] h a = tt
from_weaker j k (m ∷ ms) h a = ((let x = a.0 in omega arith), from_weaker j k ms h a.1)

under_weaker : (j k : ℕ) (ms : List Move) → j ≤ k → IsUnder j ms → IsUnder k ms
under_weaker j k [] h a = tt
under_weaker j k (m ∷ ms) h a = ((let x = a.0 in omega arith), under_weaker j k ms h a.1)

above_from : (j k : ℕ) (ms : List Move) → j < k → IsFrom k ms → IsAbove j ms
above_from j k [] h a = tt
above_from j k (m ∷ ms) h a = ((let x = a.0 in omega arith), above_from j k ms h a.1)

from_both : (k : ℕ) (xs ys : List Move) → IsFrom k xs → IsFrom k ys → IsFrom k (xs ++ ys)
from_both k [] ys a b = b
from_both k (x ∷ xs) ys a b = (a.0, from_both k xs ys a.1 b)

under_both : (k : ℕ) (xs ys : List Move) → IsUnder k xs → IsUnder k ys → IsUnder k (xs ++ ys)
under_both k [] ys a b = b
under_both k (x ∷ xs) ys a b = (a.0, under_both k xs ys a.1 b)

above_both : (k : ℕ) (xs ys : List Move) → IsAbove k xs → IsAbove k ys → IsAbove k (xs ++ ys)
above_both k [] ys a b = b
above_both k (x ∷ xs) ys a b = (a.0, above_both k xs ys a.1 b)

-- a rising list under k, and then one from k on
rising_both : (k : ℕ) (xs ys : List Move) → IsRising xs → IsUnder k xs → IsRising ys → IsFrom k ys → IsRising (xs ++ ys)
rising_both k [] ys r u s a = s
rising_both k (x ∷ xs) ys r u s a = (
  above_both (move_place x) xs ys r.0 (above_from (move_place x) k ys u.0 a),
  rising_both k xs ys r.1 u.1 s a,
)

above_kept : (f : Move → Bool) (k : ℕ) (ms : List Move) → IsAbove k ms → IsAbove k (filter f ms)
above_kept f k [] a = tt
above_kept f k (m ∷ ms) a = elim (f m) as (λ b.
    IsAbove k (cond b (m ∷ filter f ms) (filter f ms))) [ true ↦ (a.0, above_kept f k ms a.1) | false ↦ above_kept f k ms a.1 ]

rising_kept : (f : Move → Bool) (ms : List Move) → IsRising ms → IsRising (filter f ms)
rising_kept f [] r = tt
rising_kept f (m ∷ ms) r = elim (f m) as (λ b. IsRising (cond b (m ∷ filter f ms) (filter f ms))) [
  | true ↦
      (above_kept f (move_place m) ms r.0, rising_kept f ms r.1)
  | false ↦ rising_kept f ms r.1
]

between_rises : (o t : ℕ) → IsRising (moves_between o t) × IsFrom (first_place o t) (moves_between o t)
    × IsUnder (first_place o (t + 1)) (moves_between o t)
unfolding moves_between
between_rises o t = (
  (
    (omega arith, (omega arith, (omega arith, (omega arith, tt)))),
    ((omega arith, (omega arith, (omega arith, tt))), ((omega arith, (omega arith, tt)), ((omega arith, tt), (tt, tt)))),
  ),
  (omega arith, (omega arith, (omega arith, (omega arith, (omega arith, tt))))),
  (omega arith, (omega arith, (omega arith, (omega arith, (omega arith, tt))))),
)

to_rises : (o n : ℕ) → IsRising (moves_to o n) × IsFrom (first_place o 0) (moves_to o n) × IsUnder (first_place o n) (moves_to o n)
unfolding moves_to
to_rises o zero = (tt, tt, tt)
to_rises o (suc n) =
    let a = to_rises o n in let b = between_rises o n in (
      rising_both (first_place o n) (moves_to o n) (moves_between o n) a.0 a.2 b.0 b.1,
      from_both (first_place o 0) (moves_to o n) (moves_between o n) a.1
          (from_weaker (first_place o 0) (first_place o n) (moves_between o n) (omega arith) b.1),
      under_both (first_place o (suc n)) (moves_to o n) (moves_between o n)
          (under_weaker (first_place o n) (first_place o (suc n)) (moves_to o n) (omega arith) a.2)
          (under_weaker (first_place o (n + 1)) (first_place o (suc n)) (moves_between o n) (omega arith) b.2),
    )

all_rise : (n : ℕ) → IsRising (moves_below n) × IsUnder (first_place n 0) (moves_below n)
unfolding moves_below
all_rise zero = (tt, tt)
all_rise (suc n) =
    let a = all_rise n in let b = to_rises n 64 in (
      rising_both (first_place n 0) (moves_below n) (moves_to n 64) a.0 a.1 b.0 b.1,
      under_both (first_place (suc n) 0) (moves_below n) (moves_to n 64)
          (under_weaker (first_place n 0) (first_place (suc n) 0) (moves_below n) (omega arith) a.1)
          (under_weaker (first_place n 64) (first_place (suc n) 0) (moves_to n 64) (omega arith) b.2),
    )

pub legal_rise : LegalRise
unfolding legal_moves
legal_rise p = rising_kept (is_legal p) (moves_below 64) (all_rise 64).0
