-- A room that was just opened (own to this project).
use Rattle.std.specs.Prelude.{◌≡◌, ℕ, false, [], length, replicate}
use Rattle.mate_desk.specs.Calls.{empty}
use Rattle.room_ends.specs.Opening.{AreOpened, AreIdle}
use Rattle.desk_room.specs.Keepers.{lists, lines_of, receivers_of, producer_of, ring_of, is_home}
use Rattle.desk_room.specs.declared.rooms.Room.{Room}

-- It has so many windows and benches, rings of so many places and a desk that holds nothing and is open; by no end went anything yet.
pub record IsOpen (many_windows many_benches many_places bound : ℕ) (room : Room) : Type 0 where
  pub windows : length room.windows.items ≡ many_windows
  pub benches : length room.benches.items ≡ many_benches
  pub opened : AreOpened many_places bound 0 room.windows.items (lines_of room.keeper)
  pub idle : AreIdle (producer_of room.keeper) many_places room.benches.items (receivers_of room.keeper)
  pub ring : ring_of room.keeper ≡ many_places
  pub here : is_home room.keeper ≡ false
  pub lists : lists room.keeper ≡ record {
    taken = replicate many_windows [];
    put = replicate many_windows [];
    heard = replicate many_benches [];
    orders = [];
    content = empty many_windows many_places 0;
  }
