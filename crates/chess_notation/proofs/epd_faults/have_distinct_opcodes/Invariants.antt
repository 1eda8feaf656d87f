use Rattle.std.proofs.Common.{◌≡◌, length}
use Rattle.chess_notation.specs.Segments.{segments_of}
use Rattle.chess_notation.specs.EpdFaults.{are_distinct}
use Rattle.chess_notation.proofs.epd_faults.have_distinct_opcodes.Given as goal

abbrev pub invariant-loop-segment : goal.invariant-loop-segment
invariant-loop-segment l = are_distinct (segments_of l.rest).ended ≡ are_distinct (segments_of l.text).ended

abbrev pub decreases-loop-segment : goal.decreases-loop-segment
decreases-loop-segment l = length l.rest
