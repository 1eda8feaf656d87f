-- Capture en passant (FIDE Laws of Chess, article 3.7): its target, who may capture there, and the pawn that is captured.
use Rattle.std.specs.Prelude.{ℕ, ◌+◌, ◌*◌, Option, Some, None, Bool, false, ◌&&◌, ◌==◌, if◌then◌else◌}
use Rattle.chess_board.specs.declared.men.Colour.{Colour}
use Rattle.chess_board.specs.declared.men.Kind.TheVariants.{Pawn}
use Rattle.chess_board.specs.declared.men.Man.{Man}
use Rattle.chess_board.specs.Squares.{file_of, rank_of, rank_gap, crossed}
use Rattle.chess_board.specs.Men.{is_kind}
use Rattle.chess_board.specs.Positions.{Setup}
use Rattle.chess_board.specs.Moves.{Move}
use Rattle.chess_board.specs.Attacks.{attacks_as}

-- The target is the square that a double step has passed over, whether or not a pawn can capture there.
abbrev pub target_after : Man → Move → Option ℕ
target_after man m = if is_kind Pawn man.kind && (rank_gap m.origin m.target == 2) then Some (crossed m.origin m.target) else None

-- whether the target, if there is one, is this square
abbrev pub is_square : Option ℕ → ℕ → Bool
is_square None square = false
is_square (Some target) square = target == square

-- A pawn captures en passant where it attacks the square that a double step has just passed over.
abbrev pub takes_en_passant : Setup → Colour → ℕ → ℕ → Bool
takes_en_passant p colour a b = attacks_as p.men colour Pawn a b && is_square p.target b

-- A pawn goes to the square that a double step has just passed over: no other way leads a pawn there.
abbrev pub is_en_passant : Setup → Man → Move → Bool
is_en_passant p man m = is_kind Pawn man.kind && is_square p.target m.target

-- the square of the pawn that is captured: on the origin's rank and the target's file
abbrev pub captured_pawn : ℕ → ℕ → ℕ
captured_pawn a b = 8 * rank_of a + file_of b
