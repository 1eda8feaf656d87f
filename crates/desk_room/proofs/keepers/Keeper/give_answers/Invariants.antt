use Rattle.std.proofs.Common.{◌≡◌, ◌≤◌, ◌+◌, length, get_or, []}
use Rattle.desk_room.specs.Turns.{pending_at}
use Rattle.desk_room.specs.Keepers.{lists, known, OthersServed}
use Rattle.desk_room.specs.Passes.{Giving}
use Rattle.desk_room.specs.inside.Steps.{Untouched, AtLines}
use Rattle.desk_room.proofs.keepers.Keeper.give_answers.Given as goal

abbrev pub invariant-loop-given : goal.invariant-loop-given
invariant-loop-given l = record {
  gave : Giving (lists l.fn.self) (lists l.self) l.given;
  fewer : length (pending_at l.n l.self.desk.queues) + l.given ≡ l.pending;
  longer : length (get_or (lists l.self).put l.n []) ≤ length (get_or (lists l.fn.self).put l.n []) + l.given;
  untouched : Untouched l.n (lists l.fn.self).put (lists l.self).put;
  others : OthersServed l.n l.fn.self l.self;
  known : known l.self ≡ known l.fn.self;
  ends : AtLines l.fn.self l.self;
}
