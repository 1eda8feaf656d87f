use Rattle.std.proofs.Common.{◌≡◌, ◌≤◌, length, true, IfSome, Some}
use Rattle.std.specs.Option.{option_map_or}
use Rattle.std.specs.List.{list_all}
use Rattle.chess_notation.specs.Segments.{segments_of}
use Rattle.chess_notation.specs.EpdFaults.{has_number_if_bound, is_small_if_bound}
use Rattle.chess_notation.specs.inside.RecordReading.{bound_said, avoid_text_in}
use Rattle.chess_notation.proofs.problem_operations.asked_of.Given as goal

abbrev pub invariant-loop-segment : goal.invariant-loop-segment
invariant-loop-segment l = record {
  bound : option_map_or (λ bound. bound) l.bound (bound_said (segments_of l.rest).ended l.default) ≡ bound_said (segments_of l.text).ended l.default;
  avoid : option_map_or (λ words. Some words.now) l.avoid (avoid_text_in (segments_of l.rest).ended) ≡ avoid_text_in (segments_of l.text).ended;
  numbers : list_all has_number_if_bound (segments_of l.rest).ended ≡ true;
  small : list_all is_small_if_bound (segments_of l.rest).ended ≡ list_all is_small_if_bound (segments_of l.text).ended;
  shorter : IfSome l.avoid (λ words. length words.now ≤ length l.text);
  within : length l.rest ≤ length l.text;
}

abbrev pub decreases-loop-segment : goal.decreases-loop-segment
decreases-loop-segment l = length l.rest
