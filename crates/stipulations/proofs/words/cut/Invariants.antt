use Rattle.std.proofs.Common.{◌≡◌, ◌++◌, take, drop}
use Rattle.stipulations.specs.inside.Cuts.{after, front}
use Rattle.stipulations.proofs.words.cut.Given as goal

abbrev pub invariant-loop-index : goal.invariant-loop-index
invariant-loop-index l = record {
  front : take l.index l.text ++ front (drop l.index l.text) ≡ front l.text;
  after : after (drop l.index l.text) ≡ after l.text;
}
