use Rattle.desk_room.specs.Keepers.{SameRoom}
use Rattle.desk_room.proofs.serving.keeper_thread.run_keeper.Given as goal

abbrev pub invariant-loop : goal.invariant-loop
invariant-loop g l = SameRoom l.fn.keeper l.keeper
