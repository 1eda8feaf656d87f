use Rattle.callers.proofs.Rooms.{opened_of}
use Rattle.callers.proofs.for_desk_room.small_room.Goals as goal

pub returns-clause-of : goal.returns-clause-of
returns-clause-of c = (opened_of 4 c.args.default c.pop.new.self.items c.in-Some.window c.in-Ok.field-0.windows.items
    c.in-Ok.field-0.keeper c.in-Some.ensures.items c.in-Ok.ensures.room.opened).of
