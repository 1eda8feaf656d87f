-- How a board is drawn, as White or as Black sees it: a line for each rank, and one for the letters of the files.
use Rattle.std.specs.Prelude.{ℕ, ◌+◌, ◌*◌, List, [], ◌∷◌, ◌++◌, codes, flat_map, Option, Some, None}
use Rattle.chess_board.specs.Characters.{char}
use Rattle.chess_board.specs.declared.men.Colour.{Colour}
use Rattle.chess_board.specs.declared.men.Colour.TheVariants.{White, Black}
use Rattle.chess_board.specs.declared.men.Man.{Man}
use Rattle.chess_board.specs.Positions.{man_at}
use Rattle.chess_board.specs.Placement.{man_letter}
use Rattle.chess_views.specs.Lines.{line}

-- a man's letter as in FEN, or a dot
abbrev pub place_letter : Option Man → ℕ
place_letter None = char "."
place_letter (Some man) = man_letter man

-- the files from left to right, as a side sees them
abbrev pub files_from : Colour → List ℕ
files_from White = 0 ∷ 1 ∷ 2 ∷ 3 ∷ 4 ∷ 5 ∷ 6 ∷ 7 ∷ []
files_from Black = 7 ∷ 6 ∷ 5 ∷ 4 ∷ 3 ∷ 2 ∷ 1 ∷ 0 ∷ []

-- the ranks from above, as a side sees them
abbrev pub ranks_from : Colour → List ℕ
ranks_from White = 7 ∷ 6 ∷ 5 ∷ 4 ∷ 3 ∷ 2 ∷ 1 ∷ 0 ∷ []
ranks_from Black = 0 ∷ 1 ∷ 2 ∷ 3 ∷ 4 ∷ 5 ∷ 6 ∷ 7 ∷ []

-- The rank's digit and a space; then the eight squares, each behind a space.
unfoldable pub rank_line : Colour → List (Option Man) → ℕ → List ℕ
rank_line from men rank =
    line ((char "1" + rank) ∷ char " " ∷ flat_map (λ file. char " " ∷ place_letter (man_at men (8 * rank + file)) ∷ []) (files_from from))

-- Two spaces; then the letters of the files, each behind a space.
unfoldable pub files_line : Colour → List ℕ
files_line from = line (codes "  " ++ flat_map (λ file. char " " ∷ (char "a" + file) ∷ []) (files_from from))

-- the whole board
unfoldable pub board_text : Colour → List (Option Man) → List ℕ
board_text from men = flat_map (rank_line from men) (ranks_from from) ++ files_line from
