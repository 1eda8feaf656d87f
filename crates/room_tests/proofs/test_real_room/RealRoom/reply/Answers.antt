use Rattle.room_tests.proofs.Rooms.{of_then, of_window}
use Rattle.room_tests.proofs.test_real_room.RealRoom.reply.Goals as goal

pub returns-in-Submit : goal.returns-in-Submit
returns-in-Submit g c =
    of_window c.args.self.now.window c.reply_of_window.new.window c.args.self.now.keeper c.requires c.reply_of_window.ensures

pub returns-in-Turn : goal.returns-in-Turn
returns-in-Turn g c =
    of_then c.args.self.now.window c.args.self.now.keeper c.reply_of_keeper.new.keeper c.requires c.reply_of_keeper.ensures
