use Rattle.std.proofs.Common.{◌<◌}
use Rattle.room_ends.specs.Windows.{SameWindow}
use Rattle.desk_room.specs.inside.Submitters.{IsAt}
use Rattle.desk_room.proofs.serving.submitters.Submitter.hand_in_all.Given as goal

abbrev pub invariant-loop-number : goal.invariant-loop-number
invariant-loop-number g l = record {
  window : SameWindow l.fn.self.window l.self.window;
  few : l.self.refused < l.number;
  at : IsAt l.input l.rest l.number l.self;
}
