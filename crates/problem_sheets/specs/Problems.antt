-- A problem of a page: its number, its diagram, and what stands beneath it.
use Rattle.std.specs.Prelude.{ℕ, zero, suc, ◌+◌, ◌==◌, List, [], ◌∷◌, ◌++◌, codes, decimal, filter, Bool, not, Option, Some, None, if◌then◌else◌}
use Rattle.chess_board.specs.Characters.{char}
use Rattle.chess_board.specs.declared.men.Colour.{Colour}
use Rattle.chess_board.specs.declared.men.Colour.TheVariants.{White, Black}
use Rattle.chess_board.specs.declared.men.Man.{Man}
use Rattle.chess_board.specs.declared.men.Wing.{Wing}
use Rattle.chess_board.specs.declared.men.Wing.TheVariants.{KingSide, QueenSide}
use Rattle.chess_board.specs.Fens.{position_text}
use Rattle.chess_board.specs.Fields.{square_text}
use Rattle.chess_board.specs.Men.{has_right_of, is_of}
use Rattle.chess_board.specs.Positions.{Setup, man_at}
use Rattle.chess_notation.specs.Answers.{entries_text}
use Rattle.chess_notation.specs.Opcodes.{operands_under, same_text}
use Rattle.chess_notation.specs.Operations.{Entry}
use Rattle.chess_notation.specs.Records.{RecordValue, problem_of}
use Rattle.chess_problems.specs.declared.outcomes.Outcome.{Outcome}
use Rattle.chess_problems.specs.declared.outcomes.Outcome.TheVariants.{Mate, NoMate}
use Rattle.mate_search.specs.inside.Truth.{truth}
use Rattle.problem_sheets.specs.Diagrams.{diagram_text}
use Rattle.problem_sheets.specs.Escaping.{escaped}

-- a problem: what its line says, and whether it says the number of moves itself, so that this is not the default one
pub record PageProblemValue : Type 0 where
  pub asked : RecordValue
  pub says_bound : Bool

-- the length of the shortest mate, where there is one
abbrev pub length_of : Outcome → Option ℕ
length_of (Mate dm keys pv) = Some dm
length_of NoMate = None

-- the number of moves that stands by a problem: what its line says, or else, where it is solved, the length of the shortest mate
unfoldable pub stipulation : Bool → PageProblemValue → Option ℕ
stipulation solved p = if p.says_bound then Some p.asked.bound else if solved then length_of (truth (problem_of p.asked)) else None

-- how many squares below n have a man of the colour
unfoldable pub men_below : ℕ → Colour → List (Option Man) → ℕ
men_below zero colour men = 0
men_below (suc n) colour men = men_below n colour men + (if is_of colour (man_at men n) then 1 else 0)

-- how many men each side has: `7+5`
abbrev pub count_text : List (Option Man) → List ℕ
count_text men = decimal (men_below 64 White men) ++ codes "+" ++ decimal (men_below 64 Black men)

-- what an operation says, without quotation marks
abbrev pub unquoted : List ℕ → List ℕ
unquoted operands = filter (λ b. not (b == char "\"")) operands

abbrev pub id_text : RecordValue → List ℕ
id_text r = escaped (unquoted (operands_under (codes "id") r.rest))

-- a right to castle
abbrev pub right_words : Colour → Wing → List ℕ
right_words White KingSide = codes "White may castle kingside. "
right_words White QueenSide = codes "White may castle queenside. "
right_words Black KingSide = codes "Black may castle kingside. "
right_words Black QueenSide = codes "Black may castle queenside. "

unfoldable pub right_text : Setup → Colour → Wing → List ℕ
right_text p colour wing = if has_right_of p.rights colour wing then right_words colour wing else []

unfoldable pub target_words : Option ℕ → List ℕ
target_words None = []
target_words (Some square) = codes "En passant on " ++ square_text square ++ codes ". "

-- what a diagram doesn't show: rights to castle, and a pawn that may be captured en passant
unfoldable pub state_text : Setup → List ℕ
state_text p =
    right_text p White KingSide ++ right_text p White QueenSide ++ right_text p Black KingSide
    ++ right_text p Black QueenSide ++ target_words p.target

-- the number of moves by a diagram, and in a record
abbrev pub stipulation_text : Option ℕ → List ℕ
stipulation_text None = []
stipulation_text (Some moves) = codes " #" ++ decimal moves

abbrev pub bound_text : Option ℕ → List ℕ
bound_text None = []
bound_text (Some moves) = codes " dm " ++ decimal moves ++ codes ";"

abbrev pub is_id : Entry → Bool
is_id entry = same_text (codes "id") entry.opcode

-- the record without a solution: its position, the number of moves that stands by it, and `id`
abbrev pub epd_text : Option ℕ → RecordValue → List ℕ
epd_text moves r = position_text r.position ++ bound_text moves ++ entries_text (filter is_id r.rest)

-- what stands beneath the diagram: number, stipulation and counts of men, `id`, what the diagram doesn't show, and the record to be copied
unfoldable pub heading_text : ℕ → Option ℕ → RecordValue → List ℕ
heading_text n moves r = codes "<b>" ++ decimal n ++ codes "</b>" ++ stipulation_text moves ++ codes " " ++ count_text r.position.men

unfoldable pub cite_text : RecordValue → List ℕ
cite_text r = codes "<cite>" ++ id_text r ++ codes "</cite>"

unfoldable pub small_text : RecordValue → List ℕ
small_text r = codes "<small>" ++ state_text r.position ++ codes "</small>"

unfoldable pub code_text : Option ℕ → RecordValue → List ℕ
code_text moves r = codes "<code>" ++ escaped (epd_text moves r) ++ codes "</code>"

unfoldable pub details_text : ℕ → Option ℕ → RecordValue → List ℕ
details_text n moves r = heading_text n moves r ++ cite_text r ++ small_text r ++ code_text moves r

unfoldable pub caption_text : ℕ → Option ℕ → RecordValue → List ℕ
caption_text n moves r = codes "<figcaption>" ++ details_text n moves r ++ codes "</figcaption>"

unfoldable pub problem_text : ℕ → Option ℕ → RecordValue → List ℕ
problem_text n moves r = codes "<figure>" ++ diagram_text r.position ++ caption_text n moves r ++ codes "</figure>\n"

-- problems, the first of them numbered so, solved or not
unfoldable pub problems_from : Bool → ℕ → List PageProblemValue → List ℕ
problems_from solved n [] = []
problems_from solved n (p ∷ ps) = problem_text n (stipulation solved p) p.asked ++ problems_from solved (n + 1) ps
