use Rattle.room_tests.proofs.Rooms.{of_then}
use Rattle.room_tests.proofs.test_scenes.reply_of_two.Goals as goal

pub returns-in-0-clause-second : goal.returns-in-0-clause-second
returns-in-0-clause-second g c = of_then c.args.room.now.second c.args.room.now.keeper c.reply.new.keeper c.requires.second c.reply.ensures.room

pub returns-in_default-clause-first : goal.returns-in_default-clause-first
returns-in_default-clause-first g c =
    of_then c.args.room.now.first c.args.room.now.keeper c.reply-in_default.new.keeper c.requires.first c.reply-in_default.ensures.room
