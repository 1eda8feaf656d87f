use Rattle.std.proofs.Common.{◌≡◌, ◌≤◌, ◌+◌, length, get_or, []}
use Rattle.desk_room.specs.Keepers.{lists, backs_known}
use Rattle.desk_room.specs.Passes.{Hearing}
use Rattle.desk_room.specs.inside.Steps.{Untouched, AtReceivers}
use Rattle.desk_room.proofs.keepers.Keeper.hear_from.Given as goal

abbrev pub invariant-loop : goal.invariant-loop
invariant-loop l = record {
  heard : Hearing (lists l.fn.self) (lists l.self) l.all.solved l.all.returned l.all.strangers;
  few : l.all.solved + (l.all.returned + l.all.strangers) ≤ l.counter;
  longer : length (get_or (lists l.self).heard l.b []) ≤ length (get_or (lists l.fn.self).heard l.b []) + l.counter;
  others : Untouched l.b (lists l.fn.self).heard (lists l.self).heard;
  known : length (get_or (backs_known l.self) l.b []) + l.counter ≡ l.lying;
  untouched : Untouched l.b (backs_known l.fn.self) (backs_known l.self);
  ends : AtReceivers l.fn.self l.self;
}
