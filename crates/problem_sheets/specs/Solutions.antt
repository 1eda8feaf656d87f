-- The solutions on the last pages.
use Rattle.std.specs.Prelude.{ℕ, ◌+◌, ◌==◌, List, [], ◌∷◌, ◌++◌, codes, length, decimal, nat_lt, ◌&&◌, Bool, None, true, false, if◌then◌else◌}
use Rattle.std.specs.List.{flat_map}
use Rattle.chess_board.specs.Characters.{char}
use Rattle.chess_notation.specs.Records.{RecordValue, problem_of}
use Rattle.chess_problems.specs.declared.outcomes.Outcome.{Outcome}
use Rattle.chess_problems.specs.declared.outcomes.Outcome.TheVariants.{Mate, NoMate}
use Rattle.mate_search.specs.inside.Truth.{truth}
use Rattle.mate_tree.specs.declared.forms.Form.{Form}
use Rattle.mate_tree.specs.declared.forms.Pieces.{Pieces}
use Rattle.mate_tree.specs.declared.forms.Pieces.TheVariants.{San, Figurines}
use Rattle.mate_tree.specs.Layouts.{column_text}
use Rattle.mate_tree.specs.Trees.{shown_lines, tree_lines}
use Rattle.problem_sheets.specs.Problems.{PageProblemValue}

-- A piece's letter as its figurine, by a character reference; other characters as they are.
abbrev pub figurine : ℕ → List ℕ
figurine b =
    if b == char "K" then codes "&#9812;"
    else if b == char "Q" then codes "&#9813;"
    else if b == char "R" then codes "&#9814;"
    else if b == char "B" then codes "&#9815;"
    else if b == char "N" then codes "&#9816;"
    else b ∷ []

-- moves with letters, or with figurines
abbrev pub moves_text : Pieces → List ℕ → List ℕ
moves_text Figurines text = flat_map figurine text
moves_text _ text = text

-- the letters of a column; where figurines are to stand for pieces, those of SAN, whose place they take
abbrev pub column_pieces : Pieces → Pieces
column_pieces Figurines = San
column_pieces letters = letters

-- what is shown of a solution: the defences that parry alone, in a column
abbrev pub solution_form : Pieces → Form
solution_form pieces = record {
  moves = None;
  defences = true;
  set_play = false;
  tries = false;
  lines = None;
  column = true;
  pieces = column_pieces pieces;
}

-- a solution as a magazine's column has it
abbrev pub solved_text : Pieces → RecordValue → Outcome → List ℕ
solved_text pieces r o =
    let form = solution_form pieces in moves_text pieces (column_text (shown_lines form (tree_lines form (problem_of r) o)))

-- a mate in fewer moves than are asked for
unfoldable pub lengths_text : ℕ → ℕ → List ℕ
lengths_text bound dm = codes " <i>short: #" ++ decimal dm ++ codes ", not #" ++ decimal bound ++ codes "</i>"

-- which is said of a problem whose line says itself within how many
abbrev pub short_text : Bool → ℕ → ℕ → List ℕ
short_text said bound dm = if said && nat_lt dm bound then lengths_text bound dm else []

-- more than one key
unfoldable pub counted_keys_text : ℕ → List ℕ
counted_keys_text keys = codes " <i>" ++ decimal keys ++ codes " keys</i>"

abbrev pub several_text : ℕ → List ℕ
several_text keys = if nat_lt 1 keys then counted_keys_text keys else []

-- no mate in as many moves as the line says, or within as many as were taken for it
abbrev pub no_mate_words : Bool → List ℕ
no_mate_words said = if said then codes " <i>no mate in " else codes " <i>no mate within "

-- what is not sound of the problem
abbrev pub flags_text : Bool → ℕ → Outcome → List ℕ
flags_text said bound (Mate dm keys pv) = short_text said bound dm ++ several_text (length keys.items) ++ codes " "
flags_text said bound NoMate = no_mate_words said ++ decimal bound ++ codes "</i>"

-- the problem's number, what is not sound of it, and its solution, by what there is to say of it
abbrev pub told_text : Pieces → ℕ → PageProblemValue → Outcome → List ℕ
told_text pieces n p o =
    codes "<p><b>" ++ decimal n ++ codes "</b>" ++ flags_text p.says_bound p.asked.bound o ++ solved_text pieces p.asked o ++ codes "</p>\n"

-- the same by what is true of it
unfoldable pub solution_text : Pieces → ℕ → PageProblemValue → List ℕ
solution_text pieces n p = told_text pieces n p (truth (problem_of p.asked))

unfoldable pub solutions_from : Pieces → ℕ → List PageProblemValue → List ℕ
solutions_from pieces n [] = []
solutions_from pieces n (p ∷ ps) = solution_text pieces n p ++ solutions_from pieces (n + 1) ps
