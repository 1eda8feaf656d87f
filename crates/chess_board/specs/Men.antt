-- The men, their colours and kinds (FIDE Laws of Chess, article 2), and the rights to castle that are left.
use Rattle.std.specs.Prelude.{Option, Some, None, Bool, true, false, ◌&&◌}
use Rattle.chess_board.specs.declared.men.Colour.{Colour}
use Rattle.chess_board.specs.declared.men.Colour.TheVariants.{White, Black}
use Rattle.chess_board.specs.declared.men.Kind.{Kind}
use Rattle.chess_board.specs.declared.men.Kind.TheVariants.{Pawn, Knight, Bishop, Rook, Queen, King}
use Rattle.chess_board.specs.declared.men.Man.{Man}
use Rattle.chess_board.specs.declared.men.Wing.{Wing}
use Rattle.chess_board.specs.declared.men.Wing.TheVariants.{KingSide, QueenSide}
use Rattle.chess_board.specs.declared.men.Rights.{Rights}

abbrev pub other_side : Colour → Colour
other_side White = Black
other_side Black = White

-- what stands on a square with such a man on it
abbrev pub man_of : Colour → Kind → Option Man
man_of colour kind = Some (record { colour = colour; kind = kind })

-- whether two colours are one
abbrev pub is_colour : Colour → Colour → Bool
is_colour White White = true
is_colour Black Black = true
is_colour _ _ = false

-- whether two kinds are one
abbrev pub is_kind : Kind → Kind → Bool
is_kind Pawn Pawn = true
is_kind Knight Knight = true
is_kind Bishop Bishop = true
is_kind Rook Rook = true
is_kind Queen Queen = true
is_kind King King = true
is_kind _ _ = false

-- Whether a man of the colour stands there.
abbrev pub is_of : Colour → Option Man → Bool
is_of colour None = false
is_of colour (Some man) = is_colour colour man.colour

-- Whether a man of this colour and kind stands there.
abbrev pub is_man : Colour → Kind → Option Man → Bool
is_man colour asked None = false
is_man colour asked (Some man) = is_colour colour man.colour && is_kind asked man.kind

-- Whether a pawn of either colour stands there.
abbrev pub is_pawn : Option Man → Bool
is_pawn None = false
is_pawn (Some man) = is_kind Pawn man.kind

-- Whether a side may still castle on a wing.
abbrev pub has_right_of : Rights → Colour → Wing → Bool
has_right_of rights White KingSide = rights.white_king_side
has_right_of rights White QueenSide = rights.white_queen_side
has_right_of rights Black KingSide = rights.black_king_side
has_right_of rights Black QueenSide = rights.black_queen_side
