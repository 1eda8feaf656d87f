use Rattle.std.proofs.Common.{◌≡◌, false, take}
use Rattle.std.specs.List.{list_any}
use Rattle.mate_tree.specs.Parries.{still_mates}
use Rattle.mate_tree.proofs.parries.is_met.Given as goal

-- None of those so far still mates.
abbrev pub invariant-loop-threat : goal.invariant-loop-threat
invariant-loop-threat l = record {
  none : list_any (still_mates l.left l.position) (take l.threat-index l.threats) ≡ false;
  room : l.memo.room ≡ l.fn.memo.room;
}
