use Rattle.std.proofs.Common.{ℕ, List}
use Rattle.std.specs.Io.KnownBytes.{Consumes}
use Rattle.text_lines.specs.inside.InputLines.{IsKept, IsOneLine, left_of}
use Rattle.text_lines.proofs.input_lines.Lines.take_line.Given as goal

-- what was seen of the line so far is what was taken of the input
abbrev pub invariant-loop : goal.invariant-loop
invariant-loop g l = (seen : List ℕ) × record {
  kept : IsKept l.kept seen;
  one : IsOneLine seen;
  taken : Consumes (left_of g.I.Input.left l.initial.self) (left_of g.I.Input.left l.self) seen;
  steady : g.I.Input.breaks l.self.input → g.I.Input.breaks l.initial.self.input;
}
