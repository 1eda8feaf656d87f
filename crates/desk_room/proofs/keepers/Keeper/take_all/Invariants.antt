use Rattle.std.proofs.Common.{ℕ, ◌≤◌, ◌<◌, ◌*◌}
use Rattle.desk_room.specs.Keepers.{lists, IsRead}
use Rattle.desk_room.specs.Passes.{Taking}
use Rattle.desk_room.specs.inside.Steps.{GainBefore, AtLines}
use Rattle.desk_room.proofs.keepers.Keeper.take_all.Given as goal

abbrev pub invariant-loop-n : goal.invariant-loop-n
invariant-loop-n l = record {
  took : Taking (lists l.fn.self) (lists l.self) l.all.accepted l.all.byes l.all.withdrawn;
  accepted : l.all.accepted ≤ 64 * l.n;
  byes : l.all.byes ≤ 64 * l.n;
  withdrawn : l.all.withdrawn ≤ 64 * l.n;
  gained : GainBefore l.n l.fn.self.ring (lists l.fn.self).taken (lists l.self).taken;
  read : (i : ℕ) → i < l.n → IsRead i l.self;
  ends : AtLines l.fn.self l.self;
}
