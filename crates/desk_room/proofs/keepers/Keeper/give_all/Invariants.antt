use Rattle.std.proofs.Common.{ℕ, ◌≡◌, ◌≤◌, ◌<◌, ◌*◌}
use Rattle.desk_room.specs.Keepers.{lists, known, IsServed}
use Rattle.desk_room.specs.Passes.{Giving}
use Rattle.desk_room.specs.inside.Steps.{GainBefore, AtLines}
use Rattle.desk_room.proofs.keepers.Keeper.give_all.Given as goal

abbrev pub invariant-loop-n : goal.invariant-loop-n
invariant-loop-n l = record {
  gave : Giving (lists l.fn.self) (lists l.self) l.delivered;
  few : l.delivered ≤ 64 * l.n;
  gained : GainBefore l.n l.fn.self.ring (lists l.fn.self).put (lists l.self).put;
  served : (i : ℕ) → i < l.n → IsServed i l.self;
  known : known l.self ≡ known l.fn.self;
  ends : AtLines l.fn.self l.self;
}
