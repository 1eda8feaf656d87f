use Rattle.room_tests.proofs.Rooms.{room_same, of_then, of_window}
use Rattle.room_tests.proofs.test_scenes.reply.Goals as goal

pub returns-in-Submit-clause-of : goal.returns-in-Submit-clause-of
returns-in-Submit-clause-of g c = of_window c.args.window.now c.submit.new.self c.args.keeper.now c.requires c.submit.ensures.answers.window

pub returns-in-Submit-clause-room : goal.returns-in-Submit-clause-room
returns-in-Submit-clause-room g c = room_same c.args.keeper.now

pub returns-in-Withdraw-clause-of : goal.returns-in-Withdraw-clause-of
returns-in-Withdraw-clause-of g c = of_window c.args.window.now c.withdraw.new.self c.args.keeper.now c.requires c.withdraw.ensures.answers.window

pub returns-in-Withdraw-clause-room : goal.returns-in-Withdraw-clause-room
returns-in-Withdraw-clause-room g c = room_same c.args.keeper.now

pub returns-in-Bye-clause-of : goal.returns-in-Bye-clause-of
returns-in-Bye-clause-of g c = of_window c.args.window.now c.bye.new.self c.args.keeper.now c.requires c.bye.ensures.answers.window

pub returns-in-Bye-clause-room : goal.returns-in-Bye-clause-room
returns-in-Bye-clause-room g c = room_same c.args.keeper.now

pub returns-in-Collect-clause-of : goal.returns-in-Collect-clause-of
returns-in-Collect-clause-of g c = of_window c.args.window.now c.collect.new.window c.args.keeper.now c.requires c.collect.ensures

pub returns-in-Collect-clause-room : goal.returns-in-Collect-clause-room
returns-in-Collect-clause-room g c = room_same c.args.keeper.now

pub returns-in-Turn-clause-of : goal.returns-in-Turn-clause-of
returns-in-Turn-clause-of g c = of_then c.args.window.now c.args.keeper.now c.reply_of_keeper.new.keeper c.requires c.reply_of_keeper.ensures

pub returns-in_default-clause-room : goal.returns-in_default-clause-room
returns-in_default-clause-room g c = room_same c.args.keeper.now
