-- The pawns on rank 1 and on rank 8, as a set.
use Rattle.std.proofs.Common.{◌≡◌, ℕ, zero, suc, ◌<◌, ◌^◌, Bool, true, false, not, ◌&&◌, ◌||◌, eqb, ltb, List, Option, Some, None}
use Rattle.std.proofs.Common.{refl, sym, ◌∙◌, arith, w64}
use Rattle.std.specs.Int.{trailing_zeros}
use Rattle.std.specs.Int.RustNames.{bit_and}
use Rattle.std.proofs.lemmas.Bool.Decides.{nat_tests}
use Rattle.std.proofs.lemmas.Nat.{and_le_l}
use Rattle.std.proofs.lemmas.Nat.Bits.{bit_at-zero, bit_at-trailing_zeros}
use Rattle.square_sets.specs.Members.{has}
use Rattle.chess_board.specs.declared.men.Man.{Man}
use Rattle.chess_board.specs.declared.men.Kind.TheVariants.{Pawn}
use Rattle.chess_board.specs.Men.{is_pawn}
use Rattle.chess_board.specs.Positions.{man_at}
use Rattle.chess_board.specs.Sets.{IsSetOf}
use Rattle.chess_board.specs.Squares.{rank_of, all_below}
use Rattle.chess_board.specs.Soundness.{is_no_end_pawn, has_no_end_pawn}
use Rattle.chess_board.specs.inside.Boards.{is_of_kind}
use Rattle.chess_board.proofs.Below.{all_yes, all_from, all_not}
use Rattle.chess_board.proofs.MenSets.{has-bit_and}

-- the squares of ranks 1 and 8
abbrev pub end_ranks : ℕ
end_ranks = 18374686479671623935

abbrev is_inner : ℕ → Bool
is_inner s = ltb 0 (rank_of s) && ltb (rank_of s) 7

abbrev differ : Bool → Bool → Bool
differ true b = not b
differ false b = b

other_test : (a b : Bool) → differ a b ≡ true → a ≡ not b
other_test true true h = sym h
other_test true false h = refl
other_test false true h = refl
other_test false false h = h

has-end_ranks : (s : ℕ) → s < 64 → has end_ranks s ≡ not (is_inner s)
unfolding all_below
has-end_ranks s l = other_test (has end_ranks s) (is_inner s) (all_yes (λ t. differ (has end_ranks t) (is_inner t)) 64 s refl l)

-- a set is empty exactly where no square is in it
empty_set : (set : ℕ) → set < 2 ^ 64 → all_below 64 (λ s. not (has set s)) ≡ eqb set 0
empty_set zero fits = all_from (λ s. not (has 0 s)) 64 (λ s l. let none = bit_at-zero s in rw none)
empty_set (suc n) fits =
    let first = bit_at-trailing_zeros w64 (suc n) (omega arith) fits in
    let some : eqb (suc n) 0 ≡ false = grind (arith, nat_tests) in
    rw some (all_not (λ s. not (has (suc n) s)) 64 (trailing_zeros w64 (suc n)) first.0 (let there = first.1 in rw there))

all_same : (p q : ℕ → Bool) (n : ℕ) → ((s : ℕ) → s < n → p s ≡ q s) → all_below n p ≡ all_below n q
unfolding all_below
all_same p q zero same = refl
all_same p q (suc n) same = let before = all_same p q n (λ s l. same s (omega arith)) in let here = same n (omega arith) in rw (before, here)

pub no_end_pawn : (men : List (Option Man)) (pawns : ℕ) → pawns < 2 ^ 64 → IsSetOf pawns (is_of_kind Pawn) men
    → eqb (bit_and pawns end_ranks) 0 ≡ has_no_end_pawn men
no_end_pawn men pawns fits is =
    sym (empty_set (bit_and pawns end_ranks) (omega (arith, and_le_l pawns end_ranks)))
    ∙ all_same (λ s. not (has (bit_and pawns end_ranks) s)) (λ s. is_no_end_pawn (man_at men s) s) 64
    (λ s l. rw (has-bit_and pawns end_ranks s, is s l, has-end_ranks s l) (by_place (man_at men s) (is_inner s)))
  where
    either : (pawn inner : Bool) → not (pawn && not inner) ≡ (not pawn || inner)
    either true true = refl
    either true false = refl
    either false inner = refl

    by_place : (place : Option Man) (inner : Bool) → not (is_of_kind Pawn place && not inner) ≡ (not (is_pawn place) || inner)
    by_place None inner = refl
    by_place (Some man) inner = either (is_of_kind Pawn (Some man)) inner
