use Rattle.std.proofs.Common.{◌≡◌, ◌++◌, take, drop}
use Rattle.json_replies.specs.Cuts.{before, from_on}
use Rattle.json_replies.proofs.cuts.cut.Given as goal

abbrev pub invariant-loop-index : goal.invariant-loop-index
invariant-loop-index l = record {
  before_is : take l.index l.text ++ before l.byte l.left (drop l.index l.text) ≡ before l.byte l.others l.text;
  from_is : from_on l.byte l.left (drop l.index l.text) ≡ from_on l.byte l.others l.text;
}
