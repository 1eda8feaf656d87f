use Rattle.std.proofs.Common.{take}
use Rattle.text_lines.specs.inside.InputLines.{IsOneLine}
use Rattle.text_lines.proofs.input_lines.cut_line.Given as goal

-- no newline so far
abbrev pub invariant-loop-index : goal.invariant-loop-index
invariant-loop-index l = IsOneLine (take l.index l.text)
