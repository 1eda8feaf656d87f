-- What stands round the square that a double step has just passed over: no pawn goes there but to capture en passant.
use Rattle.std.proofs.Common.{◌≡◌, ℕ, ◌+◌, ◌-◌, Bool, true, false, ◌&&◌, ◌||◌, eqb, List, Option, Some, None, refl, arith}
use Rattle.std.proofs.lemmas.Bool.{and_parts, eqb-true, false_from_ne_true, or_from}
use Rattle.std.specs.Prelude.{is_some, not}
use Rattle.chess_board.specs.declared.men.Colour.{Colour}
use Rattle.chess_board.specs.declared.men.Colour.TheVariants.{White, Black}
use Rattle.chess_board.specs.declared.men.Kind.TheVariants.{Pawn}
use Rattle.chess_board.specs.declared.men.Man.{Man}
use Rattle.chess_board.specs.Squares.{file_of, rank_of, file_gap, crossed}
use Rattle.chess_board.specs.Men.{other_side, is_of}
use Rattle.chess_board.specs.inside.KindTests.{is_pawn_of}
use Rattle.chess_board.specs.Positions.{Setup, man_at, is_empty}
use Rattle.chess_board.specs.Attacks.{is_forward, attacks_as}
use Rattle.chess_board.specs.Soundness.{IsSound, has_pawn_of_target}
use Rattle.chess_board.specs.PseudoLegal.{steps_once, steps_twice, takes}
use Rattle.chess_board.specs.Fields.{target_rank}
use Rattle.chess_board.specs.EnPassant.{is_square, captured_pawn}

-- where the pawn stands that passed over the square, for the side that may capture it
abbrev pub beyond : Colour → ℕ → ℕ
beyond White t = t - 8
beyond Black t = t + 8

-- A double step has just passed over the square, so that the colour may capture there.
pub record IsPassedOver (men : List (Option Man)) (c : Colour) (t : ℕ) : Type 0 where
  pub rank : rank_of t ≡ target_rank c
  pub empty : man_at men t ≡ None
  pub pawn : is_pawn_of (other_side c) (man_at men (beyond c t)) ≡ true

empty_reads : (men : List (Option Man)) (s : ℕ) → is_empty men s ≡ true → man_at men s ≡ None
empty_reads men s h = (elim (man_at men s) as (λ place. not (is_some place) ≡ true → place ≡ None) [ None ↦ λ e. refl | Some man ↦ λ e. cc ]) h

-- the first three of the four tests of a target
parts : (rank empty pawn home : Bool) → (rank && empty && pawn && home) ≡ true → (rank ≡ true) × (empty ≡ true) × (pawn ≡ true)
parts true true true home h = (refl, refl, refl)
parts true true false home h = cc
parts true false pawn home h = cc
parts false empty pawn home h = cc

passed_over_of : (men : List (Option Man)) (c : Colour) (t : ℕ) → has_pawn_of_target men c t ≡ true → IsPassedOver men c t
passed_over_of men White t h =
    let q = parts (eqb (rank_of t) 5) (is_empty men t) (is_pawn_of Black (man_at men (t - 8))) (is_empty men (t + 8)) h in
    record { rank = eqb-true (rank_of t) 5 q.0; empty = empty_reads men t q.1; pawn = q.2 }
passed_over_of men Black t h =
    let q = parts (eqb (rank_of t) 2) (is_empty men t) (is_pawn_of White (man_at men (t + 8))) (is_empty men (t - 8)) h in
    record { rank = eqb-true (rank_of t) 2 q.0; empty = empty_reads men t q.1; pawn = q.2 }

-- The en passant target of a sound position is such a square.
pub passed_over : (p : Setup) (t : ℕ) → IsSound p → is_square p.target t ≡ true → IsPassedOver p.men p.side t
passed_over p t sound here =
    (elim (p.target) as (λ o. p.target ≡ o → IsPassedOver p.men p.side t) [
      | None ↦ λ e. let never = rw e at here in cc
      | Some square ↦ λ e.
          let same : square ≡ t = eqb-true square t (rw e at here) in
          let held = rw e at sound.target in
          passed_over_of p.men p.side t (rw same at held)
    ]) refl

-- A single step would come from the square on which the passed pawn stands.
no_step : (men : List (Option Man)) (c : Colour) (o t : ℕ) (man : Man) → man_at men o ≡ Some man → man.colour ≡ c
    → IsPassedOver men c t → steps_once men c o t ≡ false
no_step men White o t man there own h = false_from_ne_true (steps_once men White o t) (λ goes.
    let q = and_parts (is_forward White 1 o t) (eqb (file_of o) (file_of t))
    ((and_parts (is_forward White 1 o t && eqb (file_of o) (file_of t)) (is_empty men t) goes).0) in
    let rank = eqb-true (rank_of t) (rank_of o + 1) q.0 in
    let file = eqb-true (file_of o) (file_of t) q.1 in
    let back : t - 8 ≡ o = omega arith in
    let never = rw (back, there, own) at h.pawn in cc)
no_step men Black o t man there own h = false_from_ne_true (steps_once men Black o t) (λ goes.
    let q = and_parts (is_forward Black 1 o t) (eqb (file_of o) (file_of t))
    ((and_parts (is_forward Black 1 o t && eqb (file_of o) (file_of t)) (is_empty men t) goes).0) in
    let rank = eqb-true (rank_of o) (rank_of t + 1) q.0 in
    let file = eqb-true (file_of o) (file_of t) q.1 in
    let back : t + 8 ≡ o = omega arith in
    let never = rw (back, there, own) at h.pawn in cc)

-- the first and the third of the five tests of a double step
double_parts : (forward file home crossing last : Bool) → (forward && file && home && crossing && last) ≡ true → (forward ≡ true) × (home ≡ true)
double_parts true true true true true h = (refl, refl)
double_parts true true true true false h = cc
double_parts true true true false last h = cc
double_parts true true false crossing last h = cc
double_parts true false home crossing last h = cc
double_parts false file home crossing last h = cc

-- A double step ends on another rank.
no_double : (men : List (Option Man)) (c : Colour) (o t : ℕ) → IsPassedOver men c t → steps_twice men c o t ≡ false
no_double men White o t h = false_from_ne_true (steps_twice men White o t) (λ goes.
    let q = double_parts (is_forward White 2 o t) (eqb (file_of o) (file_of t)) (eqb (rank_of o) 1)
    (is_empty men (crossed o t)) (is_empty men t) goes in
    let rank = eqb-true (rank_of t) (rank_of o + 2) q.0 in
    let home = eqb-true (rank_of o) 1 q.1 in
    let last = h.rank in omega arith)
no_double men Black o t h = false_from_ne_true (steps_twice men Black o t) (λ goes.
    let q = double_parts (is_forward Black 2 o t) (eqb (file_of o) (file_of t)) (eqb (rank_of o) 6)
    (is_empty men (crossed o t)) (is_empty men t) goes in
    let rank = eqb-true (rank_of o) (rank_of t + 2) q.0 in
    let home = eqb-true (rank_of o) 6 q.1 in
    let last = h.rank in omega arith)

-- There is nothing to capture there.
no_capture : (men : List (Option Man)) (c : Colour) (o t : ℕ) → IsPassedOver men c t → takes men c Pawn o t ≡ false
no_capture men c o t h = false_from_ne_true (takes men c Pawn o t) (λ goes.
    let q = and_parts (attacks_as men c Pawn o t) (is_of (other_side c) (man_at men t)) goes in
    let never = rw h.empty at q.1 in cc)

-- the three other ways of a pawn
abbrev pub plain_ways : List (Option Man) → Colour → ℕ → ℕ → Bool
plain_ways men c o t = steps_once men c o t || steps_twice men c o t || takes men c Pawn o t

pub no_plain_way : (men : List (Option Man)) (c : Colour) (o t : ℕ) (man : Man) → man_at men o ≡ Some man → man.colour ≡ c
    → IsPassedOver men c t → plain_ways men c o t ≡ false
no_plain_way men c o t man there own h =
    or_from (steps_once men c o t || steps_twice men c o t) (takes men c Pawn o t)
    (or_from (steps_once men c o t) (steps_twice men c o t) (no_step men c o t man there own h) (no_double men c o t h))
    (no_capture men c o t h)

-- The pawn that is captured stands beyond the square.
pub captured_is_beyond : (men : List (Option Man)) (c : Colour) (o t : ℕ) → attacks_as men c Pawn o t ≡ true → captured_pawn o t ≡ beyond c t
captured_is_beyond men White o t h = let rank =
    eqb-true (rank_of t) (rank_of o + 1) ((and_parts (eqb (file_gap o t) 1) (is_forward White 1 o t) h).1) in omega arith
captured_is_beyond men Black o t h = let rank =
    eqb-true (rank_of o) (rank_of t + 1) ((and_parts (eqb (file_gap o t) 1) (is_forward Black 1 o t) h).1) in omega arith
