use Rattle.std.proofs.Common.{◌≡◌, length}
use Rattle.std.specs.List.{list_all}
use Rattle.chess_notation.specs.Segments.{segments_of}
use Rattle.chess_notation.specs.EpdFaults.{differs_from}
use Rattle.chess_notation.proofs.epd_faults.differ_from.Given as goal

abbrev pub invariant-loop-segment : goal.invariant-loop-segment
invariant-loop-segment l = list_all (differs_from l.opcode) (segments_of l.rest).ended ≡ list_all (differs_from l.opcode) (segments_of l.text).ended

abbrev pub decreases-loop-segment : goal.decreases-loop-segment
decreases-loop-segment l = length l.rest
