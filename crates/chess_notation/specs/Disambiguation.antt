-- Disambiguation: what tells a man that moves from others such that can legally go to its target (PGN Specification, section 8.2.3.4).
use Rattle.std.specs.Prelude.{ℕ, ◌+◌, List, [], ◌∷◌, Option, Some, None, Bool, true, false, ◌&&◌, not, ◌==◌, if◌then◌else◌}
use Rattle.std.specs.List.{list_any}
use Rattle.chess_board.specs.Characters.{char}
use Rattle.chess_board.specs.declared.men.Man.{Man}
use Rattle.chess_board.specs.Squares.{file_of, rank_of}
use Rattle.chess_board.specs.Men.{is_colour}
use Rattle.chess_board.specs.Positions.{Setup, man_at}
use Rattle.chess_board.specs.Placement.{kind_letter}
use Rattle.chess_board.specs.Fields.{square_text}
use Rattle.chess_board.specs.Moves.{Move}
use Rattle.chess_moves.specs.inside.Listing.{legal_moves}

-- whether such a man, of the same kind and colour, stands there
abbrev pub is_such : Man → Option Man → Bool
is_such man None = false
is_such man (Some other) = is_colour man.colour other.colour && (kind_letter man.kind == kind_letter other.kind)

-- The move n brings another such man to the target of m.
abbrev pub is_rival : Setup → Man → Move → Move → Bool
is_rival p man m n = (n.target == m.target) && not (n.origin == m.origin) && is_such man (man_at p.men n.origin)

-- Among the legal moves some rival's passes the test. A man that cannot legally reach the target is no rival.
unfoldable pub some_rival : Setup → Man → Move → (Move → Bool) → Bool
some_rival p man m passes = list_any (λ n. is_rival p man m n && passes n) (legal_moves p)

abbrev pub file_letter : ℕ → List ℕ
file_letter square = (char "a" + file_of square) ∷ []

abbrev pub rank_digit : ℕ → List ℕ
rank_digit square = (char "1" + rank_of square) ∷ []

-- the origin's file, or its rank where a rival stands on that file, or both where others stand on the file and on the rank
abbrev pub origin_text : Bool → Bool → ℕ → List ℕ
origin_text on_file on_rank square =
    if not on_file then file_letter square else (if not on_rank then rank_digit square else square_text square)

-- what tells the man from its rivals: nothing where it has none
abbrev pub disambiguation_text : Setup → Man → Move → List ℕ
disambiguation_text p man m =
    if some_rival p man m (λ n. true)
    then origin_text (some_rival p man m (λ n. file_of n.origin == file_of m.origin))
    (some_rival p man m (λ n. rank_of n.origin == rank_of m.origin)) m.origin
    else []
