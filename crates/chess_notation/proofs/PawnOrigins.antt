-- A pawn's move is known by the file that it leaves and by its target.
use Rattle.std.proofs.Common.{◌≡◌, ℕ, ◌+◌, ◌⊎◌, true, false, not, ◌&&◌, ◌||◌, eqb, List, Option, Some, None, sym, ◌∙◌, inl, inr, arith}
use Rattle.std.specs.Prelude.{is_some}
use Rattle.std.proofs.lemmas.Bool.{and_parts, or_cases, eqb-true}
use Rattle.chess_board.specs.declared.men.Colour.{Colour}
use Rattle.chess_board.specs.declared.men.Colour.TheVariants.{White, Black}
use Rattle.chess_board.specs.declared.men.Kind.TheVariants.{Pawn}
use Rattle.chess_board.specs.declared.men.Man.{Man}
use Rattle.chess_board.specs.Squares.{file_of, rank_of, file_gap, crossed}
use Rattle.chess_board.specs.Positions.{Setup, man_at, is_empty}
use Rattle.chess_board.specs.Men.{other_side, is_of}
use Rattle.chess_board.specs.Attacks.{is_forward, attacks_as}
use Rattle.chess_board.specs.PseudoLegal.{second_rank, steps_once, steps_twice, takes, pawn_goes}
use Rattle.chess_board.specs.EnPassant.{is_square, takes_en_passant}

-- a double step, by what it asks
record IsDouble (men : List (Option Man)) (colour : Colour) (a b : ℕ) : Type 0 where
  onward : is_forward colour 2 a b ≡ true
  straight : file_of a ≡ file_of b
  home : rank_of a ≡ second_rank colour
  empty : is_empty men (crossed a b) ≡ true

double_parts : (men : List (Option Man)) (colour : Colour) (a b : ℕ) → steps_twice men colour a b ≡ true → IsDouble men colour a b
double_parts men colour a b h =
    let onward = is_forward colour 2 a b in
    let straight = eqb (file_of a) (file_of b) in
    let home = eqb (rank_of a) (second_rank colour) in
    let empty = is_empty men (crossed a b) in
    let q = and_parts (onward && straight && home && empty) (is_empty men b) h in
    let r = and_parts (onward && straight && home) empty q.0 in
    let s = and_parts (onward && straight) home r.0 in
    let u = and_parts onward straight s.0 in
    record { onward = u.0; straight = eqb-true (file_of a) (file_of b) u.1; home = eqb-true (rank_of a) (second_rank colour) s.1; empty = r.1 }

once_parts : (men : List (Option Man)) (colour : Colour) (a b : ℕ) → steps_once men colour a b ≡ true
    → (is_forward colour 1 a b ≡ true) × (file_of a ≡ file_of b)
once_parts men colour a b h =
    let q = and_parts (is_forward colour 1 a b && eqb (file_of a) (file_of b)) (is_empty men b) h in
    let r = and_parts (is_forward colour 1 a b) (eqb (file_of a) (file_of b)) q.0 in
    (r.0, eqb-true (file_of a) (file_of b) r.1)

attack_forward : (men : List (Option Man)) (colour : Colour) (a b : ℕ) → attacks_as men colour Pawn a b ≡ true → is_forward colour 1 a b ≡ true
attack_forward men colour a b h = (and_parts (eqb (file_gap a b) 1) (is_forward colour 1 a b) h).1

-- A pawn goes to the next rank, or makes a double step.
pawn_steps : (p : Setup) (colour : Colour) (a b : ℕ) → pawn_goes p colour a b ≡ true → (is_forward colour 1 a b ≡ true) ⊎ IsDouble p.men colour a b
pawn_steps p colour a b h =
    let once = steps_once p.men colour a b in
    let twice = steps_twice p.men colour a b in
    let taking = takes p.men colour Pawn a b in
    let passing = takes_en_passant p colour a b in
    elim (or_cases (once || twice || taking) passing h) [
      | inr h ↦ inl (attack_forward p.men colour a b ((and_parts (attacks_as p.men colour Pawn a b) (is_square p.target b) h).0))
      | inl h ↦ elim (or_cases (once || twice) taking h) [
        | inr h ↦ inl (attack_forward p.men colour a b
            ((and_parts (attacks_as p.men colour Pawn a b) (is_of (other_side colour) (man_at p.men b)) h).0))
        | inl h ↦ elim (or_cases once twice h) [
          | inl h ↦ inl (once_parts p.men colour a b h).0
          | inr h ↦ inr (double_parts p.men colour a b h)
        ]
      ]
    ]

no_enemy : (colour : Colour) (place : Option Man) → not (is_some place) ≡ true → is_of colour place ≡ true → ⊥
no_enemy colour None empty enemy = cc
no_enemy colour (Some man) empty enemy = cc

-- A pawn that captures nothing stays on its file.
pub quiet_file : (p : Setup) (colour : Colour) (a b : ℕ) → pawn_goes p colour a b ≡ true → is_empty p.men b ≡ true
    → is_square p.target b ≡ false → file_of a ≡ file_of b
quiet_file p colour a b h empty unpassed =
    let once = steps_once p.men colour a b in
    let twice = steps_twice p.men colour a b in
    let taking = takes p.men colour Pawn a b in
    let passing = takes_en_passant p colour a b in
    elim (or_cases (once || twice || taking) passing h) [
      | inr h ↦ let here = (and_parts (attacks_as p.men colour Pawn a b) (is_square p.target b) h).1 in cc
      | inl h ↦ elim (or_cases (once || twice) taking h) [
        | inr h ↦ absurd (no_enemy (other_side colour) (man_at p.men b) empty
            ((and_parts (attacks_as p.men colour Pawn a b) (is_of (other_side colour) (man_at p.men b)) h).1))
        | inl h ↦ elim (or_cases once twice h) [
          | inl h ↦ (once_parts p.men colour a b h).1
          | inr h ↦ (double_parts p.men colour a b h).straight
        ]
      ]
    ]

next_rank_same : (colour : Colour) (a b t : ℕ) → is_forward colour 1 a t ≡ true → is_forward colour 1 b t ≡ true → rank_of a ≡ rank_of b
next_rank_same White a b t h k = let x = eqb-true (rank_of t) (rank_of a + 1) h in let y = eqb-true (rank_of t) (rank_of b + 1) k in omega arith
next_rank_same Black a b t h k = let x = eqb-true (rank_of a) (rank_of t + 1) h in let y = eqb-true (rank_of b) (rank_of t + 1) k in omega arith

-- A double step crosses the square from which a single step goes to its target.
crossed_is : (colour : Colour) (a b t : ℕ) → is_forward colour 1 a t ≡ true → is_forward colour 2 b t ≡ true
    → file_of a ≡ file_of b → file_of b ≡ file_of t → crossed b t ≡ a
crossed_is White a b t h k f g = let x = eqb-true (rank_of t) (rank_of a + 1) h in let y = eqb-true (rank_of t) (rank_of b + 2) k in omega arith
crossed_is Black a b t h k f g = let x = eqb-true (rank_of a) (rank_of t + 1) h in let y = eqb-true (rank_of b) (rank_of t + 2) k in omega arith

-- so that no pawn stands on that square
not_both : (men : List (Option Man)) (colour : Colour) (man : Man) (a b t : ℕ) → man_at men a ≡ Some man
    → is_forward colour 1 a t ≡ true → IsDouble men colour b t → file_of a ≡ file_of b → a ≡ b
not_both men colour man a b t there h double files =
    let at = crossed_is colour a b t h double.onward files double.straight in
    let empty = rw (at, there) at double.empty in cc

pub pawn_origin_same : (p : Setup) (colour : Colour) (man : Man) (a b t : ℕ) → man_at p.men a ≡ Some man → man_at p.men b ≡ Some man →
    pawn_goes p colour a t ≡ true → pawn_goes p colour b t ≡ true → file_of a ≡ file_of b → a ≡ b
pawn_origin_same p colour man a b t there_a there_b goes_a goes_b files =
    elim (pawn_steps p colour a t goes_a) [
      | inl h ↦ elim (pawn_steps p colour b t goes_b) [
        | inl k ↦ let ranks = next_rank_same colour a b t h k in omega arith
        | inr k ↦ not_both p.men colour man a b t there_a h k files
      ]
      | inr h ↦ elim (pawn_steps p colour b t goes_b) [
        | inl k ↦ sym (not_both p.men colour man b a t there_b k h (sym files))
        | inr k ↦ let ranks = h.home ∙ sym k.home in omega arith
      ]
    ]
