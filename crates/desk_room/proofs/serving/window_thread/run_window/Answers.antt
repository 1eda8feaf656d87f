use Rattle.std.proofs.Common.{rules}
use Rattle.desk_room.proofs.Handed.{reported}
use Rattle.desk_room.proofs.serving.window_thread.run_window.Goals as goal

pub returns-in-Ok : goal.returns-in-Ok
returns-in-Ok g c = reported c.args.window c.drive-ended.new.submitter c.say_bye.new.window c.args.input.now (search rules)
    c.say_bye.ensures.window c.say_bye.ensures.records c.say_bye.ensures.collected c.in-Ok.ensures.none c.in-Ok.ensures.handled
