use Rattle.std.proofs.Common.{◌≡◌}
use Rattle.room_ends.specs.Windows.{letters_sent, collected, SameWindow}
use Rattle.desk_room.proofs.serving.window_thread.say_bye.Given as goal

abbrev pub invariant-loop : goal.invariant-loop
invariant-loop g l = SameWindow l.fn.window l.window × (letters_sent l.window ≡ letters_sent l.fn.window)
    × (collected l.window ≡ collected l.fn.window)
