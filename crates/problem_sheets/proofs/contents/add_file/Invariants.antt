use Rattle.text_lines.specs.Lines.{lines_of}
use Rattle.problem_sheets.specs.Contents.{AddsLines, ContentsValue}
use Rattle.problem_sheets.proofs.contents.add_file.Given as goal

-- what the lines that are left add is what all add
abbrev pub invariant-loop-number : goal.invariant-loop-number
invariant-loop-number l = (after : ContentsValue) → AddsLines l.default l.name l.number (lines_of l.rest) l.contents after
    → AddsLines l.default l.name 1 (lines_of l.input) l.fn.contents after
