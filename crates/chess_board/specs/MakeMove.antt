-- The position after a move: the men, the side to move, the castling rights that are left, and the en passant target.
use Rattle.std.specs.Prelude.{List, Option, Some, None, if◌then◌else◌}
use Rattle.chess_board.specs.declared.men.Kind.{Kind}
use Rattle.chess_board.specs.declared.men.Man.{Man}
use Rattle.chess_board.specs.Moves.{Move}
use Rattle.chess_board.specs.Positions.{Setup, man_at, cleared, moved}
use Rattle.chess_board.specs.Men.{other_side}
use Rattle.chess_board.specs.Castling.{is_castling, castled, rights_after}
use Rattle.chess_board.specs.EnPassant.{is_en_passant, captured_pawn, target_after}

-- what a man is after its move: a pawn becomes another man, of its own colour (FIDE Laws of Chess, article 3.7)
abbrev pub becomes : Man → Option Kind → Man
becomes man None = man
becomes man (Some kind) = record { colour = man.colour; kind = kind }

-- A capture en passant changes three squares, castling four, and any other move two.
abbrev pub men_after : Setup → Man → Move → List (Option Man)
men_after p man m =
    if is_en_passant p man m then cleared (moved p.men m.origin m.target man) (captured_pawn m.origin m.target)
    else (if is_castling man m then castled (moved p.men m.origin m.target man) man.colour m.origin m.target
    else moved p.men m.origin m.target (becomes man m.promotion))

-- the position once the man on the origin made the move; with no man there, nothing changes
abbrev pub after_man : Setup → Option Man → Move → Setup
after_man p None m = p
after_man p (Some man) m = record { men = men_after p man m; side = other_side p.side; rights = rights_after p.rights m; target = target_after man m }

-- The position after a move.
unfoldable pub after_setup : Setup → Move → Setup
after_setup p m = after_man p (man_at p.men m.origin) m
