use Rattle.std.proofs.Common.{ap, ◌∙◌, List, count_by}
use Rattle.room_ends.specs.WindowRings.{has_farewell}
use Rattle.room_ends.specs.declared.window_ring_line.Line.{Line}
use Rattle.desk_room.proofs.Staying.{gone_counted}
use Rattle.desk_room.proofs.keepers.Keeper.byes.Goals as goal

pub returns : goal.returns
returns c = c.count_gone.ensures
    ∙ (ap (λ (ls : List Line). count_by has_farewell ls) c.deref.ensures.value ∙ gone_counted c.args.self.now.lines.items)
