use Rattle.room_ends.specs.Windows.{SameWindow}
use Rattle.room_tests.proofs.test_submitters.Submitter.hand_in.Given as goal

abbrev pub invariant-loop : goal.invariant-loop
invariant-loop g l = SameWindow l.fn.self.window l.self.window

abbrev pub invariant-loop-2 : goal.invariant-loop-2
invariant-loop-2 g l = SameWindow l.fn.self.window l.self.window
