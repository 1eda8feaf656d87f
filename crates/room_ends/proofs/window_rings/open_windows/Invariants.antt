use Rattle.std.proofs.Common.{◌≡◌, ◌≤◌, vec_len, vec_capacity, [], map, replicate}
use Rattle.room_ends.specs.WindowRings.{letters_taken, deliveries_put, ring_of}
use Rattle.room_ends.specs.Opening.{AreOpened}
use Rattle.room_ends.proofs.window_rings.open_windows.Given as goal

abbrev pub invariant-loop-number : goal.invariant-loop-number
invariant-loop-number l = record {
  count : vec_len l.ends ≡ l.number;
  count_lines : vec_len l.lines ≡ l.number;
  places : l.windows ≤ vec_capacity l.ends;
  places_lines : l.windows ≤ vec_capacity l.lines;
  opened : AreOpened l.ring l.default 0 l.ends.items l.lines.items;
  taken : map letters_taken l.lines.items ≡ replicate l.number [];
  put : map deliveries_put l.lines.items ≡ replicate l.number [];
  rings : map ring_of l.lines.items ≡ replicate l.number l.ring;
}
