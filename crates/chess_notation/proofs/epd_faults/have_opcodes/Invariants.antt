use Rattle.std.proofs.Common.{◌≡◌, length}
use Rattle.chess_notation.specs.Segments.{segments_of}
use Rattle.chess_notation.specs.EpdFaults.{has_opcode}
use Rattle.chess_notation.specs.EpdFaults.{each_segment}
use Rattle.chess_notation.proofs.epd_faults.have_opcodes.Given as goal

abbrev pub invariant-loop-segment : goal.invariant-loop-segment
invariant-loop-segment l = each_segment has_opcode (segments_of l.rest) ≡ each_segment has_opcode (segments_of l.text)

abbrev pub decreases-loop-segment : goal.decreases-loop-segment
decreases-loop-segment l = length l.rest
