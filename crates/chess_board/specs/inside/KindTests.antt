-- Not for believing: tests for a man of one kind, under names of their own.
use Rattle.std.specs.Prelude.{Option, Bool}
use Rattle.chess_board.specs.declared.men.Colour.{Colour}
use Rattle.chess_board.specs.declared.men.Kind.{Kind}
use Rattle.chess_board.specs.declared.men.Kind.TheVariants.{Pawn, Rook, King}
use Rattle.chess_board.specs.declared.men.Man.{Man}
use Rattle.chess_board.specs.Men.{is_kind, is_man}

abbrev pub is_pawn_kind : Kind → Bool
is_pawn_kind kind = is_kind Pawn kind

abbrev pub is_king_kind : Kind → Bool
is_king_kind kind = is_kind King kind

-- Whether the colour's king stands there.
abbrev pub is_king_of : Colour → Option Man → Bool
is_king_of colour place = is_man colour King place

-- Whether a rook of the colour stands there.
abbrev pub is_rook_of : Colour → Option Man → Bool
is_rook_of colour place = is_man colour Rook place

-- Whether a pawn of the colour stands there.
abbrev pub is_pawn_of : Colour → Option Man → Bool
is_pawn_of colour place = is_man colour Pawn place
