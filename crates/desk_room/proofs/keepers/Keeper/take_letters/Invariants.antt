use Rattle.std.proofs.Common.{◌≡◌, ◌≤◌, ◌+◌, length, get_or, []}
use Rattle.desk_room.specs.Keepers.{lists, known, OthersRead}
use Rattle.desk_room.specs.Passes.{Taking}
use Rattle.desk_room.specs.inside.Steps.{Untouched, AtLines}
use Rattle.desk_room.proofs.keepers.Keeper.take_letters.Given as goal

abbrev pub invariant-loop : goal.invariant-loop
invariant-loop l = record {
  took : Taking (lists l.fn.self) (lists l.self) l.all.accepted l.all.byes l.all.withdrawn;
  accepted : l.all.accepted ≤ l.counter;
  byes : l.all.byes ≤ l.counter;
  withdrawn : l.all.withdrawn ≤ l.counter;
  longer : length (get_or (lists l.self).taken l.n []) ≤ length (get_or (lists l.fn.self).taken l.n []) + l.counter;
  untouched : Untouched l.n (lists l.fn.self).taken (lists l.self).taken;
  known : length (get_or (known l.self) l.n []) + l.counter ≡ l.lying;
  others : OthersRead l.n l.fn.self l.self;
  ends : AtLines l.fn.self l.self;
}
