use Rattle.std.proofs.Common.{◌≤◌, length, take}
use Rattle.std.specs.Io.KnownBytes.{Appends}
use Rattle.byte_streams.proofs.writing.put_counted.Given as goal

-- what is counted is written
abbrev pub invariant-loop : goal.invariant-loop
invariant-loop g l = (l.written ≤ length l.text) × Appends (g.O.Write.contents l.initial.out) (g.O.Write.contents l.out) (take l.written l.text)
