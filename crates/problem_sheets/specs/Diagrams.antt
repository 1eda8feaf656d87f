-- How a diagram is drawn (Scalable Vector Graphics 2), as White or as Black sees it: each man's shape at its square. Squares are 45 wide.
use Rattle.std.specs.Prelude.{ℕ, zero, suc, ◌-◌, ◌*◌, List, [], ◌∷◌, ◌++◌, codes, decimal, Option, if◌then◌else◌}
use Rattle.std.specs.Option.{option_map_or}
use Rattle.chess_board.specs.declared.men.Colour.{Colour}
use Rattle.chess_board.specs.declared.men.Colour.TheVariants.{White, Black}
use Rattle.chess_board.specs.declared.men.Kind.{Kind}
use Rattle.chess_board.specs.declared.men.Kind.TheVariants.{Pawn, Knight, Bishop, Rook, Queen, King}
use Rattle.chess_board.specs.declared.men.Man.{Man}
use Rattle.chess_board.specs.Fens.{FenValue}
use Rattle.chess_board.specs.Fields.{square_text}
use Rattle.chess_board.specs.Men.{is_colour}
use Rattle.chess_board.specs.Placement.{man_letter}
use Rattle.chess_board.specs.Positions.{Setup, man_at}
use Rattle.chess_board.specs.Squares.{file_of, rank_of}
use Rattle.problem_sheets.specs.declared.shapes.TheConstants.{BOARD, WHITE_COORDINATES, BLACK_COORDINATES, MARK}
use Rattle.problem_sheets.specs.declared.shapes.TheConstants.{PAWN, KNIGHT, BISHOP, ROOK, QUEEN, KING}

-- the texts of the numbers below n, from 0 on
unfoldable pub each_below : ℕ → (ℕ → List ℕ) → List ℕ
each_below zero text = []
each_below (suc n) text = each_below n text ++ text n

-- what is said or drawn of each square, from a1 to h8
abbrev pub each_square : (ℕ → List ℕ) → List ℕ
each_square text = each_below 64 text

-- how many squares stand to the left of a square, and above it, as a side sees the board: the eighth rank is the highest for White, and
-- the first for Black
abbrev pub column_from : Colour → ℕ → ℕ
column_from White square = file_of square
column_from Black square = 7 - file_of square

abbrev pub row_from : Colour → ℕ → ℕ
row_from White square = 7 - rank_of square
row_from Black square = rank_of square

-- the place of a square
unfoldable pub place_text : Colour → ℕ → List ℕ
place_text from square =
    codes "\" x=\"" ++ decimal (45 * column_from from square) ++ codes "\" y=\"" ++ decimal (45 * row_from from square) ++ codes "\"/>"

-- a man's shape, called by its letter as in FEN, at a square
unfoldable pub use_text : List ℕ
use_text = codes "<use href=\"#"

unfoldable pub letter_text : Man → List ℕ
letter_text man = man_letter man ∷ []

unfoldable pub shape_text : Colour → Man → ℕ → List ℕ
shape_text from man square = use_text ++ letter_text man ++ place_text from square

abbrev pub shape_at : Colour → List (Option Man) → ℕ → List ℕ
shape_at from men square = option_map_or (λ man. shape_text from man square) (man_at men square) []

abbrev pub kind_name : Kind → List ℕ
kind_name Pawn = codes "pawn"
kind_name Knight = codes "knight"
kind_name Bishop = codes "bishop"
kind_name Rook = codes "rook"
kind_name Queen = codes "queen"
kind_name King = codes "king"

abbrev pub colour_name : Colour → List ℕ
colour_name White = codes ", white "
colour_name Black = codes ", black "

-- a man of this colour, and where it stands: `, white king c2`
abbrev pub name_text : Colour → Man → ℕ → List ℕ
name_text colour man square = if is_colour man.colour colour then colour_name colour ++ kind_name man.kind ++ codes " " ++ square_text square else []

abbrev pub name_at : Colour → List (Option Man) → ℕ → List ℕ
name_at colour men square = option_map_or (λ man. name_text colour man square) (man_at men square) []

abbrev pub side_words : Colour → List ℕ
side_words White = codes "White to move"
side_words Black = codes "Black to move"

-- the diagram for those who don't see it: the side to move, White's men, Black's
unfoldable pub label_text : Setup → List ℕ
label_text p = side_words p.side ++ each_square (name_at White p.men) ++ each_square (name_at Black p.men)

-- Where Black moves, the diagram seen from such a side is marked, by Black's own side: above White's, below as Black sees it.
abbrev pub mark_text : Colour → Colour → List ℕ
mark_text from White = []
mark_text White Black = codes "<use href=\"#mark\"/>"
mark_text Black Black = codes "<use href=\"#mark\" y=\"262\"/>"

-- the board, the men on it, and the mark
unfoldable pub board_text : List ℕ
board_text = codes "<use href=\"#board\"/>"

unfoldable pub drawing_text : Colour → Setup → List ℕ
drawing_text from p = board_text ++ each_square (shape_at from p.men) ++ mark_text from p.side

-- a diagram of a page, which has the shapes elsewhere, as White sees it
unfoldable pub diagram_start : List ℕ
diagram_start = codes "<svg viewBox=\"-20 -3 392 386\" role=\"img\" aria-label=\""

unfoldable pub diagram_text : Setup → List ℕ
diagram_text p = diagram_start ++ label_text p ++ codes "\">" ++ drawing_text White p ++ codes "</svg>"

-- the shapes: the board with its coordinates as a side sees it, the mark, the men
unfoldable pub board_shape : List ℕ
board_shape = BOARD.now

unfoldable pub coordinates : Colour → List ℕ
coordinates White = WHITE_COORDINATES.now
coordinates Black = BLACK_COORDINATES.now

-- the drawing of a kind, which is called by the kind's name
abbrev pub drawing : Kind → List ℕ
drawing Pawn = PAWN.now
drawing Knight = KNIGHT.now
drawing Bishop = BISHOP.now
drawing Rook = ROOK.now
drawing Queen = QUEEN.now
drawing King = KING.now

unfoldable pub kind_shape : Kind → List ℕ
kind_shape kind = codes "<g id='" ++ kind_name kind ++ codes "' stroke-width='1.6' stroke-linejoin='round' stroke-linecap='round'>\n"
    ++ drawing kind ++ codes "</g>\n"

unfoldable pub kind_shapes : List ℕ
kind_shapes = kind_shape Pawn ++ kind_shape Knight ++ kind_shape Bishop ++ kind_shape Rook ++ kind_shape Queen ++ kind_shape King

-- White's men are filled white and Black's black; lines within them have the other colour.
abbrev pub filled_text : Colour → List ℕ
filled_text White = codes "' fill='#fff' stroke='#000' color='#000'><use href='#"
filled_text Black = codes "' fill='#000' stroke='#000' color='#fff'><use href='#"

-- a man's shape, called by its letter: the drawing of its kind, filled with its colour
unfoldable pub man_shape : Colour → Kind → List ℕ
man_shape colour kind =
    codes "<g id='" ++ letter_text (record { kind = kind; colour = colour }) ++ filled_text colour ++ kind_name kind ++ codes "'/></g>\n"

unfoldable pub side_shapes : Colour → List ℕ
side_shapes colour = man_shape colour King ++ man_shape colour Queen ++ man_shape colour Rook
    ++ man_shape colour Bishop ++ man_shape colour Knight ++ man_shape colour Pawn

unfoldable pub mark_shape : List ℕ
mark_shape = MARK.now

unfoldable pub men_shapes : List ℕ
men_shapes = mark_shape ++ kind_shapes ++ side_shapes White ++ side_shapes Black ++ codes "</defs>\n"

unfoldable pub shapes : Colour → List ℕ
shapes from = board_shape ++ coordinates from ++ men_shapes

-- a diagram alone, with its shapes
unfoldable pub svg_start : List ℕ
svg_start = codes "<svg xmlns=\"http://www.w3.org/2000/svg\" viewBox=\"-20 -3 392 386\" role=\"img\" aria-label=\""

unfoldable pub svg_text : Colour → Setup → List ℕ
svg_text from p = svg_start ++ label_text p ++ codes "\">\n" ++ shapes from ++ drawing_text from p ++ codes "</svg>\n"

-- that of a FEN's position
abbrev pub svg_of : Colour → FenValue → List ℕ
svg_of from f = svg_text from f.position
