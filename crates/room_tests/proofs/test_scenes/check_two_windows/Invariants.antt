use Rattle.desk_room.specs.Keepers.{IsOf}
use Rattle.room_tests.proofs.test_scenes.check_two_windows.Given as goal

abbrev pub invariant-loop-number : goal.invariant-loop-number
invariant-loop-number g l = record {
  first : IsOf l.room.first l.room.keeper;
  second : IsOf l.room.second l.room.keeper;
}
