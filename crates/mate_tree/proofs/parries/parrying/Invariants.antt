use Rattle.std.proofs.Common.{◌≡◌, ◌≤◌, take, filter, length}
use Rattle.mate_tree.specs.Parries.{parries}
use Rattle.mate_tree.proofs.parries.parrying.Given as goal

-- those so far that parry
abbrev pub invariant-loop-r : goal.invariant-loop-r
invariant-loop-r l = record {
  kept : l.found.items ≡ filter (parries l.left l.position) (take l.r-index l.r-items);
  few : length l.found.items ≤ l.r-index;
  room : l.memo.room ≡ l.fn.memo.room;
}
