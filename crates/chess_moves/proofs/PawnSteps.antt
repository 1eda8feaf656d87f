-- A pawn reaches its last rank from the rank before it, and from there no other.
use Rattle.std.proofs.Common.{◌≡◌, ℕ, ◌+◌, true, ◌&&◌, ◌||◌, eqb, List, Option, arith, inl, inr}
use Rattle.std.proofs.lemmas.Bool.{eqb-true, and_parts, or_cases}
use Rattle.chess_board.specs.declared.men.Colour.{Colour}
use Rattle.chess_board.specs.declared.men.Colour.TheVariants.{White, Black}
use Rattle.chess_board.specs.declared.men.Kind.TheVariants.{Pawn}
use Rattle.chess_board.specs.declared.men.Man.{Man}
use Rattle.chess_board.specs.Squares.{file_of, rank_of, file_gap, crossed}
use Rattle.chess_board.specs.Men.{other_side, is_of}
use Rattle.chess_board.specs.Positions.{Setup, man_at, is_empty}
use Rattle.chess_board.specs.Attacks.{is_forward, attacks_as}
use Rattle.chess_board.specs.PseudoLegal.{second_rank, last_rank, steps_once, steps_twice, takes, pawn_goes}
use Rattle.chess_board.specs.EnPassant.{is_square, takes_en_passant}
use Rattle.chess_moves.specs.inside.Shifts.{rank_before}

abbrev pub FromBefore : Colour → ℕ → ℕ → Type 0
FromBefore c o t = (rank_of t ≡ last_rank c → rank_of o ≡ rank_before c) × (rank_of o ≡ rank_before c → rank_of t ≡ last_rank c)

one_forward : (c : Colour) (o t : ℕ) → is_forward c 1 o t ≡ true → FromBefore c o t
unfolding rank_before
one_forward White o t h = let e = eqb-true (rank_of t) (rank_of o + 1) h in (λ l. omega arith, λ l. omega arith)
one_forward Black o t h = let e = eqb-true (rank_of o) (rank_of t + 1) h in (λ l. omega arith, λ l. omega arith)

two_forward : (c : Colour) (o t : ℕ) → is_forward c 2 o t ≡ true → rank_of o ≡ second_rank c → FromBefore c o t
unfolding rank_before
two_forward White o t h s = let e = eqb-true (rank_of t) (rank_of o + 2) h in (λ l. absurd (omega arith), λ l. absurd (omega arith))
two_forward Black o t h s = let e = eqb-true (rank_of o) (rank_of t + 2) h in (λ l. absurd (omega arith), λ l. absurd (omega arith))

once_before : (men : List (Option Man)) (c : Colour) (o t : ℕ) → steps_once men c o t ≡ true → FromBefore c o t
once_before men c o t h =
    let a = and_parts (is_forward c 1 o t && eqb (file_of o) (file_of t)) (is_empty men t) h in
    one_forward c o t ((and_parts (is_forward c 1 o t) (eqb (file_of o) (file_of t)) a.0).0)

twice_before : (men : List (Option Man)) (c : Colour) (o t : ℕ) → steps_twice men c o t ≡ true → FromBefore c o t
twice_before men c o t h =
    let onward = is_forward c 2 o t in
    let straight = eqb (file_of o) (file_of t) in
    let home = eqb (rank_of o) (second_rank c) in
    let empty = is_empty men (crossed o t) in
    let a = and_parts (onward && straight && home && empty) (is_empty men t) h in
    let b = and_parts (onward && straight && home) empty a.0 in
    let d = and_parts (onward && straight) home b.0 in
    two_forward c o t ((and_parts onward straight d.0).0) (eqb-true (rank_of o) (second_rank c) d.1)

attack_before : (men : List (Option Man)) (c : Colour) (o t : ℕ) → attacks_as men c Pawn o t ≡ true → FromBefore c o t
attack_before men c o t h = one_forward c o t ((and_parts (eqb (file_gap o t) 1) (is_forward c 1 o t) h).1)

pub pawn_before : (p : Setup) (c : Colour) (o t : ℕ) → pawn_goes p c o t ≡ true → FromBefore c o t
pawn_before p c o t h =
    let once = steps_once p.men c o t in
    let twice = steps_twice p.men c o t in
    let taking = takes p.men c Pawn o t in
    let passing = takes_en_passant p c o t in
    elim (or_cases (once || twice || taking) passing h) [
      | inr h ↦ attack_before p.men c o t ((and_parts (attacks_as p.men c Pawn o t) (is_square p.target t) h).0)
      | inl h ↦ elim (or_cases (once || twice) taking h) [
        | inr h ↦ attack_before p.men c o t ((and_parts (attacks_as p.men c Pawn o t) (is_of (other_side c) (man_at p.men t)) h).0)
        | inl h ↦ elim (or_cases once twice h) [
          | inl h ↦ once_before p.men c o t h
          | inr h ↦ twice_before p.men c o t h
        ]
      ]
    ]
