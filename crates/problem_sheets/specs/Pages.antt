-- A page (HTML Standard): its head, the problems, their solutions where they are asked for, the lines that are refused, and its end.
use Rattle.std.specs.Prelude.{ℕ, List, [], ◌∷◌, ◌++◌, codes, Bool, if◌then◌else◌}
use Rattle.problem_sheets.specs.declared.page_parts.TheConstants.{PAGE_START, STYLE, PAGE_END}
use Rattle.problem_sheets.specs.declared.pages.Form.{Form}
use Rattle.chess_board.specs.declared.men.Colour.TheVariants.{White}
use Rattle.problem_sheets.specs.Contents.{ContentsValue}
use Rattle.problem_sheets.specs.Diagrams.{shapes}
use Rattle.problem_sheets.specs.Escaping.{escaped}
use Rattle.problem_sheets.specs.Problems.{problems_from}
use Rattle.problem_sheets.specs.Solutions.{solutions_from}

-- what a page begins and ends with, and how it looks
unfoldable pub page_start : List ℕ
page_start = PAGE_START.now

unfoldable pub style : List ℕ
style = STYLE.now

unfoldable pub page_end : List ℕ
page_end = PAGE_END.now

unfoldable pub head_text : List ℕ → List ℕ
head_text title = page_start ++ escaped title ++ style ++ shapes White ++ codes "</svg>\n<h1>" ++ escaped title ++ codes "</h1>\n"

abbrev pub section_text : List ℕ → List ℕ → List ℕ
section_text name paragraphs = codes "<section>\n<h2>" ++ name ++ codes "</h2>\n" ++ paragraphs ++ codes "</section>\n"

-- the lines that are refused, where there are any
abbrev pub refusals_text : List ℕ → List ℕ
refusals_text [] = []
refusals_text (b ∷ bs) = section_text (codes "Lines refused") (b ∷ bs)

-- the problems, solved or not
unfoldable pub main_text : Bool → ContentsValue → List ℕ
main_text solved c = codes "<main>\n" ++ problems_from solved 1 c.problems ++ codes "</main>\n"

-- the solutions, where they are asked for, in a frame of their own
unfoldable pub framed_text : List ℕ → List ℕ
framed_text solutions = codes "<div>\n" ++ solutions ++ codes "</div>\n"

abbrev pub solutions_text : Form → ContentsValue → List ℕ
solutions_text form c = if form.solutions then section_text (codes "Solutions") (framed_text (solutions_from form.pieces 1 c.problems)) else []

-- the whole page
unfoldable pub page_text : Form → List ℕ → ContentsValue → List ℕ
page_text form title c =
    head_text title ++ main_text form.solutions c ++ solutions_text form c ++ refusals_text c.refused ++ page_end
