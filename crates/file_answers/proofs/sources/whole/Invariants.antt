use Rattle.std.proofs.Common.{◌<◌, length}
use Rattle.std.specs.Io.KnownBytes.{Consumes}
use Rattle.file_answers.proofs.sources.whole.Given as goal

-- what was read is what is kept
abbrev pub invariant-loop : goal.invariant-loop
invariant-loop g l = record {
  read : Consumes (g.I.Input.left l.initial.file) (g.I.Input.left l.file) l.bytes.items;
  room : 0 < length l.room.items;
  steady : g.I.Input.breaks l.file → g.I.Input.breaks l.initial.file;
}
