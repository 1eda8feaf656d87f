-- What pawns do, by the leaps of a pawn and the squares that are taken.
use Rattle.std.proofs.Common.{◌≡◌, ℕ, ◌+◌, ◌<◌, ◌^◌, Bool, true, false, not, ◌&&◌, eqb, List, Option, is_some, refl, sym, ap, ◌∙◌, arith, w64}
use Rattle.std.specs.Int.{bit_not}
use Rattle.std.specs.Int.RustNames.{bit_and}
use Rattle.std.proofs.lemmas.Bool.{and_parts, and_from, eqb-true, eq-eqb, false_from_ne_true}
use Rattle.square_sets.specs.Members.{has}
use Rattle.chess_board.specs.declared.men.Colour.{Colour}
use Rattle.chess_board.specs.declared.men.Colour.TheVariants.{White, Black}
use Rattle.chess_board.specs.declared.men.Kind.TheVariants.{Pawn}
use Rattle.chess_board.specs.declared.men.Man.{Man}
use Rattle.chess_board.specs.Squares.{file_of, rank_of, crossed}
use Rattle.chess_board.specs.Men.{is_of}
use Rattle.chess_board.specs.Positions.{man_at, is_empty}
use Rattle.chess_board.specs.Sets.{IsSetOf}
use Rattle.chess_board.specs.Attacks.{is_forward, attacks_as}
use Rattle.chess_board.specs.PseudoLegal.{second_rank, steps_once, steps_twice, takes}
use Rattle.chess_moves.specs.inside.Leaps.{leaps, capture_of, step_of, double_of}
use Rattle.chess_moves.proofs.SetParts.{part, parted}
use Rattle.chess_moves.proofs.ManSets.{some_not_of}

pub capture_leap : (men : List (Option Man)) (c : Colour) (a b : ℕ) → leaps (capture_of c) a b ≡ attacks_as men c Pawn a b
unfolding leaps
capture_leap men White a b = refl
capture_leap men Black a b = refl

step_leap : (c : Colour) (a b : ℕ) → leaps (step_of c) a b ≡ (is_forward c 1 a b && eqb (file_of a) (file_of b))
unfolding leaps
step_leap White a b = refl
step_leap Black a b = refl

double_leap : (c : Colour) (a b : ℕ)
    → leaps (double_of c) a b ≡ (is_forward c 2 a b && eqb (file_of a) (file_of b) && eqb (rank_of a) (second_rank c))
unfolding leaps
double_leap White a b = refl
double_leap Black a b = refl

-- the two numbers of each of two equal pairs
pairs : (a b c d : ℕ) → (eqb a b && eqb c d) ≡ true → (a ≡ b) × (c ≡ d)
pairs a b c d h = let t = and_parts (eqb a b) (eqb c d) h in (eqb-true a b t.0, eqb-true c d t.1)

pair_from : (a b c d : ℕ) → a ≡ b → c ≡ d → (eqb a b && eqb c d) ≡ true
pair_from a b c d e f = rw (eq-eqb a b e, eq-eqb c d f)

-- a step leads to one square
one_step : (c : Colour) (a s t : ℕ) → leaps (step_of c) a s ≡ true → leaps (step_of c) a t ≡ true → s ≡ t
unfolding leaps
one_step White a s t h k =
    let x = pairs (rank_of s) (rank_of a + 1) (file_of a) (file_of s) h in
    let y = pairs (rank_of t) (rank_of a + 1) (file_of a) (file_of t) k in
    omega arith
one_step Black a s t h k =
    let x = pairs (rank_of a) (rank_of s + 1) (file_of a) (file_of s) h in
    let y = pairs (rank_of a) (rank_of t + 1) (file_of a) (file_of t) k in
    omega arith

-- a double step passes over the square of the single step
step_under_double : (c : Colour) (a b : ℕ) → a < 64 → b < 64 → leaps (double_of c) a b ≡ true
    → (crossed a b < 64) × (leaps (step_of c) a (crossed a b) ≡ true)
unfolding leaps
step_under_double White a b j k h =
    let t = and_parts (eqb (rank_of b) (rank_of a + 2) && eqb (file_of a) (file_of b)) (eqb (rank_of a) (second_rank White)) h in
    let x = pairs (rank_of b) (rank_of a + 2) (file_of a) (file_of b) t.0 in
    let m : crossed a b ≡ a + 8 = omega arith in
    (omega arith, pair_from (rank_of (crossed a b)) (rank_of a + 1) (file_of a) (file_of (crossed a b)) (omega arith) (omega arith))
step_under_double Black a b j k h =
    let t = and_parts (eqb (rank_of a) (rank_of b + 2) && eqb (file_of a) (file_of b)) (eqb (rank_of a) (second_rank Black)) h in
    let x = pairs (rank_of a) (rank_of b + 2) (file_of a) (file_of b) t.0 in
    let m : crossed a b + 8 ≡ a = omega arith in
    (omega arith, pair_from (rank_of a) (rank_of (crossed a b) + 1) (file_of a) (file_of (crossed a b)) (omega arith) (omega arith))

-- the two kinds of steps, by leaps
once_leap : (men : List (Option Man)) (c : Colour) (a b : ℕ) → (leaps (step_of c) a b && is_empty men b) ≡ steps_once men c a b
once_leap men c a b = ap (λ (x : Bool). x && is_empty men b) (step_leap c a b)

twice_leap : (men : List (Option Man)) (c : Colour) (a b : ℕ)
    → (leaps (double_of c) a b && is_empty men (crossed a b) && is_empty men b) ≡ steps_twice men c a b
twice_leap men c a b = ap (λ (x : Bool). x && is_empty men (crossed a b) && is_empty men b) (double_leap c a b)

-- no pawn steps twice that cannot step once
pub twice_without_once : (men : List (Option Man)) (c : Colour) (a b : ℕ) → a < 64 → b < 64
    → ((s : ℕ) → s < 64 → steps_once men c a s ≡ false) → steps_twice men c a b ≡ false
twice_without_once men c a b j k none = false_from_ne_true (steps_twice men c a b) (λ h.
    let x = and_parts (leaps (double_of c) a b && is_empty men (crossed a b)) (is_empty men b) (twice_leap men c a b ∙ h) in
    let y = and_parts (leaps (double_of c) a b) (is_empty men (crossed a b)) x.0 in
    let under = step_under_double c a b j k y.0 in
    let once = sym (once_leap men c a (crossed a b)) ∙ and_from (leaps (step_of c) a (crossed a b)) (is_empty men (crossed a b)) under.1 y.1 in
    let never = none (crossed a b) under.0 in
    cc)

-- where a pawn can step once, the square that it passes over is empty
twice_with_once : (men : List (Option Man)) (c : Colour) (a s b : ℕ) → a < 64 → b < 64
    → steps_once men c a s ≡ true → (leaps (double_of c) a b && is_empty men b) ≡ steps_twice men c a b
twice_with_once men c a s b j k once =
    over (leaps (double_of c) a b) (is_empty men (crossed a b)) (is_empty men b) (λ h.
    let x = and_parts (leaps (step_of c) a s) (is_empty men s) (once_leap men c a s ∙ once) in
    let under = step_under_double c a b j k h in
    ap (λ u. is_empty men u) (one_step c a (crossed a b) s under.1 x.0) ∙ x.1)
    ∙ twice_leap men c a b
  where
    over : (double free empty : Bool) → (double ≡ true → free ≡ true) → (double && empty) ≡ (double && free && empty)
    over true free empty h = let e = h refl in rw e
    over false free empty h = refl

pub once_set : (men : List (Option Man)) (c : Colour) (occupied step a t : ℕ) → IsSetOf occupied is_some men → occupied < 2 ^ 64 → t < 64
    → has step t ≡ leaps (step_of c) a t → has (bit_and step (bit_not w64 occupied)) t ≡ steps_once men c a t
once_set men c occupied step a t set fits l rule =
    parted step occupied t (leaps (step_of c) a t) (is_some (man_at men t)) fits l rule (set t l) ∙ once_leap men c a t

pub twice_set : (men : List (Option Man)) (c : Colour) (occupied double a s t : ℕ)
    → IsSetOf occupied is_some men → occupied < 2 ^ 64 → a < 64 → t < 64
    → steps_once men c a s ≡ true
    → has double t ≡ leaps (double_of c) a t → has (bit_and double (bit_not w64 occupied)) t ≡ steps_twice men c a t
twice_set men c occupied double a s t set fits j l once rule =
    parted double occupied t (leaps (double_of c) a t) (is_some (man_at men t)) fits l rule (set t l) ∙ twice_with_once men c a s t j l once

pub takes_set : (men : List (Option Man)) (c : Colour) (occupied own capture a t : ℕ) → IsSetOf occupied is_some men
    → IsSetOf own (is_of c) men → own < 2 ^ 64 → t < 64
    → has capture t ≡ leaps (capture_of c) a t
    → has (bit_and (bit_and capture occupied) (bit_not w64 own)) t ≡ takes men c Pawn a t
takes_set men c occupied own capture a t set own_set fits l rule =
    let place : Option Man = man_at men t in
    let attack : Bool = attacks_as men c Pawn a t in
    parted (bit_and capture occupied) own t (attack && is_some place) (is_of c place) fits l
    (part capture occupied t attack (is_some place) (rule ∙ capture_leap men c a t) (set t l)) (own_set t l)
    ∙ grouped attack (is_some place) (not (is_of c place))
    ∙ ap (λ (x : Bool). attack && x) (some_not_of c place)
  where
    grouped : (x y z : Bool) → (x && y && z) ≡ (x && (y && z))
    grouped true y z = refl
    grouped false y z = refl
