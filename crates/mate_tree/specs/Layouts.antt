-- How the lines of a tree are laid out: one below the other, or as a column, and with the letters of SAN, other letters or
-- figurines (own to this project).
use Rattle.std.specs.Prelude.{ℕ, ◌==◌, List, [], ◌∷◌, ◌++◌, codes, Bool, Option, Some, None, if◌then◌else◌}
use Rattle.std.specs.List.{flat_map}
use Rattle.chess_board.specs.Characters.{char}
use Rattle.mate_tree.specs.Lines.{line}
use Rattle.mate_tree.specs.declared.forms.Pieces.{Pieces}
use Rattle.mate_tree.specs.declared.forms.Pieces.TheVariants as pieces
use Rattle.move_words.specs.declared.languages.Letters.{Letters}

-- ---- a line

-- a line without its indentation
abbrev pub unindented : List ℕ → List ℕ
unindented [] = []
unindented (b ∷ bs) = if b == char " " then unindented bs else b ∷ bs

-- A piece's letter as its white figurine (Unicode, U+2654 to U+2658, in UTF-8); other bytes as they are.
abbrev pub figurine : ℕ → List ℕ
figurine b =
    if b == char "K" then 226 ∷ 153 ∷ 148 ∷ []
    else if b == char "Q" then 226 ∷ 153 ∷ 149 ∷ []
    else if b == char "R" then 226 ∷ 153 ∷ 150 ∷ []
    else if b == char "B" then 226 ∷ 153 ∷ 151 ∷ []
    else if b == char "N" then 226 ∷ 153 ∷ 152 ∷ []
    else b ∷ []

-- what other letters have for a piece's; other bytes as they are
abbrev pub letter_for : Letters → ℕ → ℕ
letter_for l b =
    if b == char "K" then l.king
    else if b == char "Q" then l.queen
    else if b == char "R" then l.rook
    else if b == char "B" then l.bishop
    else if b == char "N" then l.knight
    else b

-- the byte, where there is one
abbrev pub any_byte : Option ℕ → List ℕ
any_byte None = []
any_byte (Some b) = b ∷ []

-- The same as bytes: a king may have two letters.
abbrev pub lettered : Letters → ℕ → List ℕ
lettered l b = letter_for l b ∷ (if b == char "K" then any_byte l.behind_king else [])

-- a text with what stands for pieces
abbrev pub figured : Pieces → List ℕ → List ℕ
figured pieces.San text = text
figured pieces.Figurines text = flat_map figurine text
figured (pieces.Letters l) text = flat_map (lettered l) text

-- a line of a tree as it is shown
abbrev pub shown_line : Bool → Pieces → List ℕ → List ℕ
shown_line column p l = figured p (if column then unindented l else l)

-- a heading, which a colon ends in a column
abbrev pub heading : Bool → List ℕ → List ℕ
heading column name = if column then name ++ codes ":" else name

-- ---- lines

-- lines behind each other, a space between each two
abbrev pub column_text : List (List ℕ) → List ℕ
column_text [] = []
column_text (l ∷ ls) = l ++ flat_map (λ m. codes " " ++ m) ls

-- a column as one line, where there is anything in it
abbrev pub column_line : List (List ℕ) → List ℕ
column_line [] = []
column_line (l ∷ ls) = line (column_text (l ∷ ls))

-- lines as a column, or one below the other
abbrev pub laid_out : Bool → List (List ℕ) → List ℕ
laid_out column ls = if column then column_line ls else flat_map line ls
