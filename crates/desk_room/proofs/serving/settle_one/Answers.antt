use Rattle.std.proofs.Common.{map}
use Rattle.room_ends.specs.Letters.{records}
use Rattle.room_ends.specs.Windows.{number_of, deliveries_known}
use Rattle.desk_room.specs.Keepers.{lists, known}
use Rattle.desk_room.specs.Kept.{asked_of}
use Rattle.desk_room.specs.Turns.{pending_at}
use Rattle.std.proofs.Common.{get_or, []}
use Rattle.desk_room.proofs.Settlements.{settled_one}
use Rattle.desk_room.proofs.serving.settle_one.Goals as goal

pub returns-clause-settled : goal.returns-clause-settled
returns-clause-settled c =
    let met = c.settle.new.window in
    let k = c.settle.new.self in
    settled_one c.args.report (deliveries_known met) (map asked_of (pending_at (number_of met) (lists k).content.queues))
    (records (get_or (known k) (number_of met) []))
    (rw (c.settle.ensures.window.sent, c.settle.ensures.window.collected) at c.settle.ensures.settled)
