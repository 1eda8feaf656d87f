use Rattle.desk_room.specs.Keepers.{IsOf}
use Rattle.room_tests.proofs.test_scenes.check_room.Given as goal

abbrev pub invariant-loop-number : goal.invariant-loop-number
invariant-loop-number g l = IsOf l.window l.keeper
