use Rattle.std.proofs.Common.{◌≡◌, ◌≤◌, take, count_by}
use Rattle.room_ends.specs.WindowRings.{has_farewell}
use Rattle.desk_room.proofs.keepers.count_gone.Given as goal

abbrev pub invariant-loop-line : goal.invariant-loop-line
invariant-loop-line l = record {
  gone : l.gone ≡ count_by has_farewell (take l.line-index l.lines);
  few : l.gone ≤ l.line-index;
}
