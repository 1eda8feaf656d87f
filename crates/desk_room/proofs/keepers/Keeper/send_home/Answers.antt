use Rattle.std.proofs.Common.{refl}
use Rattle.desk_room.proofs.Staying.{rings_same}
use Rattle.desk_room.proofs.keepers.Keeper.send_home.Goals as goal

pub returns-clause-rings : goal.returns-clause-rings
returns-clause-rings c = rings_same _ _ refl refl refl c.send_home.ensures.stays.deque
