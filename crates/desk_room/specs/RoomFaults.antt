-- How each reason why no room is opened prints: as its name (own to this project).
use Rattle.std.specs.Prelude.{ℕ, List, codes}
use Rattle.desk_room.specs.declared.rooms.RoomFault.{RoomFault}
use Rattle.desk_room.specs.declared.rooms.RoomFault.TheVariants as fault

abbrev pub room_fault_name : RoomFault → List ℕ
room_fault_name fault.BadWindows = codes "BadWindows"
room_fault_name fault.BadBenches = codes "BadBenches"
room_fault_name fault.BadRing = codes "BadRing"
room_fault_name fault.NoMemory = codes "NoMemory"
room_fault_name fault.NoThread = codes "NoThread"
