use Rattle.std.specs.Io.KnownBytes.{Keeps}
use Rattle.file_answers.proofs.files.ReadingInput.read.Given as goal

-- what a signal interrupts gives nothing
abbrev pub invariant-loop : goal.invariant-loop
invariant-loop g l = Keeps (g.R.Read.remaining l.initial.self.reader) (g.R.Read.remaining l.self.reader)
