use Rattle.chess_notation.proofs.SegmentEnds.{IsCutSoFar}
use Rattle.chess_notation.proofs.segments.first_segment.Given as goal

abbrev pub invariant-loop-index : goal.invariant-loop-index
invariant-loop-index l = IsCutSoFar l.text l.is_inside l.index
