-- How a move is written: Standard Algebraic Notation (PGN Specification, section 8.2.3; FIDE Laws of Chess, appendix C).
use Rattle.std.specs.Prelude.{ℕ, List, [], ◌∷◌, ◌++◌, codes, Option, Some, None, Bool, ◌||◌, not, if◌then◌else◌}
use Rattle.chess_board.specs.Characters.{char}
use Rattle.chess_board.specs.Men.{is_kind}
use Rattle.chess_board.specs.Positions.{Setup, man_at, is_empty}
use Rattle.chess_board.specs.Placement.{kind_letter}
use Rattle.chess_board.specs.Fields.{square_text}
use Rattle.chess_board.specs.Moves.{Move}
use Rattle.chess_board.specs.MakeMove.{after_setup}
use Rattle.chess_board.specs.Attacks.{is_in_check}
use Rattle.chess_board.specs.EnPassant.{is_en_passant}
use Rattle.chess_board.specs.Castling.{is_castling, wing_of}
use Rattle.chess_board.specs.declared.men.Kind.{Kind}
use Rattle.chess_board.specs.declared.men.Kind.TheVariants.{Pawn}
use Rattle.chess_board.specs.declared.men.Man.{Man}
use Rattle.chess_board.specs.declared.men.Wing.{Wing}
use Rattle.chess_board.specs.declared.men.Wing.TheVariants.{KingSide, QueenSide}
use Rattle.chess_moves.specs.Verdicts.{is_mate}
use Rattle.chess_notation.specs.Disambiguation.{file_letter, disambiguation_text}

-- A man stands on the target, or a pawn captures en passant (section 8.2.3.3).
abbrev pub is_capture : Setup → Man → Move → Bool
is_capture p man m = not (is_empty p.men m.target) || is_en_passant p man m

-- A pawn has no letter. Its capture begins with the file that it leaves.
abbrev pub pawn_origin_text : Setup → Man → Move → List ℕ
pawn_origin_text p man m = if is_capture p man m then file_letter m.origin ++ codes "x" else []

-- what the pawn becomes, by its capital letter (section 8.2.3.3)
abbrev pub becomes_text : Option Kind → List ℕ
becomes_text None = []
becomes_text (Some kind) = char "=" ∷ kind_letter kind ∷ []

abbrev pub pawn_text : Setup → Man → Move → List ℕ
pawn_text p man m = pawn_origin_text p man m ++ square_text m.target ++ becomes_text m.promotion

-- a piece's letter, its disambiguation, `x` for a capture, and the target
abbrev pub piece_text : Setup → Man → Move → List ℕ
piece_text p man m =
    kind_letter man.kind ∷ (disambiguation_text p man m ++ (if is_capture p man m then codes "x" else []) ++ square_text m.target)

-- Castling is written with the letter O (section 8.2.3.3).
abbrev pub wing_text : Wing → List ℕ
wing_text KingSide = codes "O-O"
wing_text QueenSide = codes "O-O-O"

abbrev pub man_text : Setup → Option Man → Move → List ℕ
man_text p None m = []
man_text p (Some man) m =
    if is_kind Pawn man.kind then pawn_text p man m
    else (if is_castling man m then wing_text (wing_of m.origin m.target) else piece_text p man m)

-- The move's text without its suffix, which tells of a check or of mate.
unfoldable pub bare_text : Setup → Move → List ℕ
bare_text p m = man_text p (man_at p.men m.origin) m

-- the suffix: that of mate, or of a check that is no mate, or none (section 8.2.3.5)
unfoldable pub suffix_text : Setup → List ℕ
suffix_text p = if is_mate p then codes "#" else (if is_in_check p.men p.side then codes "+" else [])

-- The move's text: the suffix is that of the position after it.
unfoldable pub san_text : Setup → Move → List ℕ
san_text p m = bare_text p m ++ suffix_text (after_setup p m)
