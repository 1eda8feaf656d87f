use Rattle.desk_room.specs.Keepers.{IsOf}
use Rattle.room_tests.proofs.sequence_tests.check_sequence.Given as goal

abbrev pub invariant-loop-place : goal.invariant-loop-place
invariant-loop-place g l = IsOf l.room.window l.room.keeper
