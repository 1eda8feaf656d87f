use Rattle.std.proofs.Common.{[]}
use Rattle.room_tests.proofs.Rooms.{opened_of}
use Rattle.room_tests.proofs.test_scenes.ends_of_one.Goals as goal

pub returns : goal.returns
returns c = opened_of _ _ c.pop.new.self.items c.in-Some.window [] c.in_ok-keeper.field-0.windows.items
    c.in_ok-keeper.field-0.keeper c.in-Some.ensures.items c.in_ok-keeper.ensures.room.opened
