use Rattle.std.proofs.Common.{arith, map}
use Rattle.room_ends.specs.WindowRings.{letters_taken, deliveries_put}
use Rattle.desk_room.proofs.Places.{map_length}
use Rattle.desk_room.proofs.Tickets.{few_records}
use Rattle.desk_room.proofs.keepers.Keeper.counts.Goals as goal

pub returns : goal.returns
returns c =
    let k = c.args.self.now in
    few_records c.args.n (map letters_taken k.lines.items) (map deliveries_put k.lines.items) k.desk
    (omega (arith, c.requires.window, map_length letters_taken k.lines.items)) (omega (arith, c.requires.window, k.windows))
    k.kept k.marked c.kept.ensures.kept.ordered c.kept.ensures.next c.requires.accepts
