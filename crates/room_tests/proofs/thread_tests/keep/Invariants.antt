use Rattle.desk_room.specs.Keepers.{SameRoom}
use Rattle.room_tests.proofs.thread_tests.keep.Given as goal

abbrev pub invariant-loop : goal.invariant-loop
invariant-loop g l = SameRoom l.fn.keeper l.keeper
