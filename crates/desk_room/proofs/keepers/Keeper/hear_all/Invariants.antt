use Rattle.std.proofs.Common.{◌≡◌, ◌<◌, ◌≤◌, ◌+◌, ◌*◌, ℕ, [], get_or}
use Rattle.desk_room.specs.Keepers.{lists, backs_known}
use Rattle.desk_room.specs.Passes.{Hearing}
use Rattle.desk_room.specs.inside.Steps.{GainBefore, AtReceivers}
use Rattle.desk_room.proofs.keepers.Keeper.hear_all.Given as goal

abbrev pub invariant-loop-b : goal.invariant-loop-b
invariant-loop-b l = record {
  heard : Hearing (lists l.fn.self) (lists l.self) l.all.solved l.all.returned l.all.strangers;
  few : l.all.solved + (l.all.returned + l.all.strangers) ≤ 64 * l.b;
  gained : GainBefore l.b l.fn.self.ring (lists l.fn.self).heard (lists l.self).heard;
  listened : (i : ℕ) → i < l.b → get_or (backs_known l.self) i [] ≡ [];
  ends : AtReceivers l.fn.self l.self;
}
