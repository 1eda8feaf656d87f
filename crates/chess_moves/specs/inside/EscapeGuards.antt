-- Not for believing: the guards of escapes, by the kind of man.
use Rattle.std.specs.Prelude.{ℕ}
use Rattle.chess_board.specs.declared.men.Kind.{Kind}
use Rattle.chess_board.specs.declared.men.Kind.TheVariants.{Pawn, Knight, Bishop, Rook, Queen, King}
use Rattle.chess_moves.specs.declared.escape_guards.EscapeGuards.{EscapeGuards}

-- the set that is kept for a kind
abbrev pub guards_of : EscapeGuards → Kind → ℕ
guards_of guards Pawn = guards.pawn
guards_of guards Knight = guards.knight
guards_of guards Bishop = guards.bishop
guards_of guards Rook = guards.rook
guards_of guards Queen = guards.queen
guards_of guards King = guards.king
