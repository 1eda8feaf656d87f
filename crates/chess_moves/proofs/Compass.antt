-- A line has one direction, and no attack by a leap goes along two steps of it.
use Rattle.std.proofs.Common.{◌≡◌, ◌≢◌, ℕ, ◌+◌, ◌*◌, ◌/◌, ◌%◌, ◌<◌, ◌≤◌, Bool, true, false, not}
use Rattle.std.proofs.Common.{◌&&◌, ◌||◌, cond, eqb, ltb, leb, refl, sym, ap, ◌∙◌, arith}
use Rattle.std.proofs.Math.Bool.{or-true, and-false}
use Rattle.std.proofs.lemmas.Bool.{eqb-true, and_parts, and_from, ne_eqb, le-ltb, lt-ltb, leb-true, eq-eqb, false_from_ne_true}
use Rattle.chess_board.specs.declared.men.Colour.{Colour}
use Rattle.chess_board.specs.declared.men.Colour.TheVariants.{White, Black}
use Rattle.chess_board.specs.Squares.{any_below, file_gap, rank_gap}
use Rattle.chess_board.specs.Attacks.{is_forward}
use Rattle.chess_moves.specs.declared.directions.Direction.{Direction}
use Rattle.chess_moves.specs.declared.directions.Direction.TheVariants.{North, NorthEast, East, SouthEast, South, SouthWest, West, NorthWest}
use Rattle.chess_moves.specs.declared.directions.Leap.{Leap}
use Rattle.chess_moves.specs.declared.directions.Leap.TheVariants.{KnightLeap, KingStep}
use Rattle.chess_moves.specs.inside.Directions.{toward, is_blocked, stands_between, reaches}
use Rattle.chess_moves.specs.inside.Leaps.{leaps, capture_of}
use Rattle.chess_moves.proofs.Geometry.{toward_on, north_says, east_says, north_east_says, north_west_says}
use Rattle.chess_moves.proofs.AnyLemmas.{any_same, any_or, any_none, any_at}

-- 2 where the second is greater, 1 where they are equal, 0 where it is less
side : ℕ → ℕ → ℕ
side a b = cond (ltb a b) 2 (cond (eqb a b) 1 0)

side_up : (a b : ℕ) → a < b → side a b ≡ 2
unfolding side
side_up a b l = rw (lt-ltb a b l)

side_same : (a b : ℕ) → a ≡ b → side a b ≡ 1
unfolding side
side_same a b e = rw (le-ltb a b (omega arith), eq-eqb a b e)

side_down : (a b : ℕ) → b < a → side a b ≡ 0
unfolding side
side_down a b l = rw (le-ltb a b (omega arith), ne_eqb a b (omega arith))

-- which way b lies from a, as a number
code : ℕ → ℕ → ℕ
code a b = side (a % 8) (b % 8) + 3 * side (a / 8) (b / 8)

code_of : Direction → ℕ
code_of North = 7
code_of NorthEast = 8
code_of East = 5
code_of SouthEast = 2
code_of South = 1
code_of SouthWest = 0
code_of West = 3
code_of NorthWest = 6

direction_of : ℕ → Direction
direction_of n =
    cond (eqb n 7) North (cond (eqb n 8) NorthEast (cond (eqb n 5) East (cond (eqb n 2) SouthEast
    (cond (eqb n 1) South (cond (eqb n 0) SouthWest (cond (eqb n 3) West NorthWest))))))

direction_back : (d : Direction) → direction_of (code_of d) ≡ d
unfolding direction_of code_of
direction_back North = refl
direction_back NorthEast = refl
direction_back East = refl
direction_back SouthEast = refl
direction_back South = refl
direction_back SouthWest = refl
direction_back West = refl
direction_back NorthWest = refl

toward_code : (d : Direction) (a b : ℕ) → toward d a b ≡ true → code a b ≡ code_of d
unfolding toward code code_of
toward_code North a b h = let x = north_says a b h in rw (side_same (a % 8) (b % 8) (omega arith), side_up (a / 8) (b / 8) (omega arith))
toward_code NorthEast a b h = let x = north_east_says a b h in rw (side_up (a % 8) (b % 8) (omega arith), side_up (a / 8) (b / 8) (omega arith))
toward_code East a b h = let x = east_says a b h in rw (side_up (a % 8) (b % 8) (omega arith), side_same (a / 8) (b / 8) (omega arith))
toward_code SouthEast a b h = let x = north_west_says b a h in rw (side_up (a % 8) (b % 8) (omega arith), side_down (a / 8) (b / 8) (omega arith))
toward_code South a b h = let x = north_says b a h in rw (side_same (a % 8) (b % 8) (omega arith), side_down (a / 8) (b / 8) (omega arith))
toward_code SouthWest a b h = let x = north_east_says b a h in rw (side_down (a % 8) (b % 8) (omega arith), side_down (a / 8) (b / 8) (omega arith))
toward_code West a b h = let x = east_says b a h in rw (side_down (a % 8) (b % 8) (omega arith), side_same (a / 8) (b / 8) (omega arith))
toward_code NorthWest a b h = let x = north_west_says a b h in rw (side_down (a % 8) (b % 8) (omega arith), side_up (a / 8) (b / 8) (omega arith))

pub toward_one : (d e : Direction) (a b : ℕ) → toward d a b ≡ true → toward e a b ≡ true → d ≡ e
toward_one d e a b h k = sym (direction_back d) ∙ ap direction_of (sym (toward_code d a b h) ∙ toward_code e a b k) ∙ direction_back e

-- what stands between in one direction stands between
pub between_from : (d : Direction) (a b s : ℕ) → (toward d a s && toward d s b) ≡ true → stands_between a b s ≡ true
unfolding stands_between
between_from North a b s h = rw h
between_from NorthEast a b s h = simp (h, or-true)
between_from East a b s h = simp (h, or-true)
between_from SouthEast a b s h = simp (h, or-true)
between_from South a b s h = simp (h, or-true)
between_from SouthWest a b s h = simp (h, or-true)
between_from West a b s h = simp (h, or-true)
between_from NorthWest a b s h = simp (h, or-true)

pub record Between (a b s : ℕ) : Type 0 where
  pub direction : Direction
  pub on_line : (toward direction a s && toward direction s b) ≡ true

either : (P : Type 0) (x y : Bool) → (x ≡ true → P) → (y ≡ true → P) → (x || y) ≡ true → P
either P true y f g h = f refl
either P false y f g h = g h

pub between_some : (a b s : ℕ) → stands_between a b s ≡ true → Between a b s
unfolding stands_between
between_some a b s h =
    let P : Type 0 = Between a b s in
    let along : (d : Direction) → (toward d a s && toward d s b) ≡ true → P = λ d e. record { direction = d; on_line = e } in
    either P _ _ (either P _ _ (either P _ _ (either P _ _ (either P _ _ (either P _ _ (either P _ _
    (along North) (along NorthEast)) (along East)) (along SouthEast)) (along South)) (along SouthWest)) (along West)) (along NorthWest) h

-- and the direction is that of the two ends
pub between_in : (d : Direction) (a b s : ℕ) → toward d a b ≡ true → stands_between a b s ≡ true → (toward d a s && toward d s b) ≡ true
between_in d a b s line h =
    let w = between_some a b s h in
    let x = and_parts (toward w.direction a s) (toward w.direction s b) w.on_line in
    let same : w.direction ≡ d = toward_one w.direction d a b (toward_on w.direction a s b x.0 x.1) line in
    ap (λ e. toward e a s && toward e s b) (sym same) ∙ w.on_line

-- two steps along a line: two files or none, two ranks or none
pub record IsFar (a b : ℕ) : Type 0 where
  files : file_gap a b ≢ 1
  ranks : rank_gap a b ≢ 1
  apart : 2 ≤ file_gap a b + rank_gap a b

line_far : (d : Direction) (a s b : ℕ) → toward d a s ≡ true → toward d s b ≡ true → IsFar a b
unfolding toward
line_far North a s b h k = let x = north_says a s h in let y = north_says s b k in
    record { files = omega arith; ranks = omega arith; apart = omega arith }
line_far NorthEast a s b h k = let x = north_east_says a s h in let y = north_east_says s b k in
    record { files = omega arith; ranks = omega arith; apart = omega arith }
line_far East a s b h k = let x = east_says a s h in let y = east_says s b k in
    record { files = omega arith; ranks = omega arith; apart = omega arith }
line_far SouthEast a s b h k = let x = north_west_says s a h in let y = north_west_says b s k in
    record { files = omega arith; ranks = omega arith; apart = omega arith }
line_far South a s b h k = let x = north_says s a h in let y = north_says b s k in
    record { files = omega arith; ranks = omega arith; apart = omega arith }
line_far SouthWest a s b h k = let x = north_east_says s a h in let y = north_east_says b s k in
    record { files = omega arith; ranks = omega arith; apart = omega arith }
line_far West a s b h k = let x = east_says s a h in let y = east_says b s k in
    record { files = omega arith; ranks = omega arith; apart = omega arith }
line_far NorthWest a s b h k = let x = north_west_says a s h in let y = north_west_says s b k in
    record { files = omega arith; ranks = omega arith; apart = omega arith }

pub far_no_knight : (a b : ℕ) → IsFar a b → leaps KnightLeap a b ≡ false
unfolding leaps
far_no_knight a b far =
    rw (ne_eqb (file_gap a b) 1 far.files, ne_eqb (rank_gap a b) 1 far.ranks) (and-false (eqb (file_gap a b) 2))

pub far_no_king : (a b : ℕ) → IsFar a b → leaps KingStep a b ≡ false
unfolding leaps
far_no_king a b far = false_from_ne_true (not (eqb a b) && leb (file_gap a b) 1 && leb (rank_gap a b) 1) (λ h.
    let x = and_parts (not (eqb a b) && leb (file_gap a b) 1) (leb (rank_gap a b) 1) h in
    let y = and_parts (not (eqb a b)) (leb (file_gap a b) 1) x.0 in
    let files : file_gap a b ≤ 1 = leb-true (file_gap a b) 1 y.1 in
    let ranks : rank_gap a b ≤ 1 = leb-true (rank_gap a b) 1 x.1 in
    few_and_far (file_gap a b) (rank_gap a b) files ranks far.files far.ranks far.apart)
  where
    few_and_far : (f r : ℕ) → f ≤ 1 → r ≤ 1 → f ≢ 1 → r ≢ 1 → 2 ≤ f + r → ⊥
    few_and_far f r l m n o h = omega arith

pub far_no_capture : (colour : Colour) (a b : ℕ) → IsFar a b → leaps (capture_of colour) a b ≡ false
unfolding leaps
far_no_capture White a b far = ap (λ x. x && is_forward White 1 a b) (ne_eqb (file_gap a b) 1 far.files)
far_no_capture Black a b far = ap (λ x. x && is_forward Black 1 a b) (ne_eqb (file_gap a b) 1 far.files)

-- a leap that never goes far has nothing strictly between
pub leap_between : (k : Leap) (a b s : ℕ) → (IsFar a b → leaps k a b ≡ false) → leaps k a b ≡ true → stands_between a b s ≡ false
leap_between k a b s near h = false_from_ne_true (stands_between a b s) (λ e.
    let w = between_some a b s e in
    let x = and_parts (toward w.direction a s) (toward w.direction s b) w.on_line in
    let none = near (line_far w.direction a s b x.0 x.1) in cc)

-- one more man on the board: what is reached is what was, where he does not stand between
pub reached_with : (taken after : ℕ → Bool) (t : ℕ) → t < 64 → ((s : ℕ) → s < 64 → after s ≡ (eqb s t || taken s))
    → (d : Direction) (a k : ℕ) → reaches after d a k ≡ (reaches taken d a k && not (stands_between a k t))
reached_with taken after t on more d a k = (elim (toward d a k)
    as (λ b. toward d a k ≡ b → (b && not (is_blocked after d a k)) ≡ ((b && not (is_blocked taken d a k)) && not (stands_between a k t))) [
      | true ↦ λ line.
          let split : is_blocked after d a k ≡ (any_below 64 (λ s. toward d a s && toward d s k && eqb s t) || is_blocked taken d a k) =
          any_same (λ s. toward d a s && toward d s k && after s)
          (λ s. (toward d a s && toward d s k && eqb s t) || (toward d a s && toward d s k && taken s)) 64
          (λ s l. ap (λ (x : Bool). toward d a s && toward d s k && x) (more s l) ∙ spread (toward d a s && toward d s k) (eqb s t) (taken s))
          ∙ any_or (λ s. toward d a s && toward d s k && eqb s t) (λ s. toward d a s && toward d s k && taken s) 64 in
          let there : any_below 64 (λ s. toward d a s && toward d s k && eqb s t) ≡ stands_between a k t = at_t line in
          rw (split, there) (de_morgan (stands_between a k t) (is_blocked taken d a k))
      | false ↦ λ line. refl
    ]) refl
  where
    spread : (x y z : Bool) → (x && (y || z)) ≡ (x && y || x && z)
    spread true y z = refl
    spread false y z = refl

    de_morgan : (x y : Bool) → not (x || y) ≡ (not y && not x)
    de_morgan true true = refl
    de_morgan true false = refl
    de_morgan false true = refl
    de_morgan false false = refl

    at_t : toward d a k ≡ true → any_below 64 (λ s. toward d a s && toward d s k && eqb s t) ≡ stands_between a k t
    at_t line = (elim (stands_between a k t)
        as (λ b. stands_between a k t ≡ b → any_below 64 (λ s. toward d a s && toward d s k && eqb s t) ≡ b) [
          | true ↦ λ h. any_at (λ s. toward d a s && toward d s k && eqb s t) 64 t on
              (and_from (toward d a t && toward d t k) (eqb t t) (between_in d a k t line h) (eq-eqb t t refl))
          | false ↦ λ h. any_none (λ s. toward d a s && toward d s k && eqb s t) 64
              (λ s l. false_from_ne_true (toward d a s && toward d s k && eqb s t) (λ e.
              let x = and_parts (toward d a s && toward d s k) (eqb s t) e in
              let same : s ≡ t = eqb-true s t x.1 in
              let found = between_from d a k t (ap (λ u. toward d a u && toward d u k) (sym same) ∙ x.0) in cc))
        ]) refl
