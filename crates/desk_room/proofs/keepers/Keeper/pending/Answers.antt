use Rattle.std.proofs.Common.{arith}
use Rattle.desk_room.proofs.Served.{pending_is}
use Rattle.desk_room.proofs.Tickets.{few_pending}
use Rattle.desk_room.proofs.keepers.Keeper.pending.Goals as goal

pub returns-clause-pending : goal.returns-clause-pending
returns-clause-pending c = pending_is c.args.n c.in-Ok.pending c.args.self.now.desk.queues c.in-Ok.ensures.pending

pub returns-clause-few : goal.returns-clause-few
returns-clause-few c =
    let k = c.args.self.now in
    omega (
      arith,
      pending_is c.args.n c.in-Ok.pending k.desk.queues c.in-Ok.ensures.pending,
      few_pending k.desk.next c.args.n
          k.ring k.desk.queues c.kept.ensures.kept.ordered k.rooms (omega (arith, c.requires, k.windows)),
    )
