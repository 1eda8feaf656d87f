use Rattle.std.proofs.Common.{◌≡◌, length}
use Rattle.chess_notation.specs.Segments.{segments_of}
use Rattle.chess_notation.specs.SaidBounds.{says_bound_in}
use Rattle.chess_notation.proofs.said_bounds.says_bound.Given as goal

abbrev pub invariant-loop-segment : goal.invariant-loop-segment
invariant-loop-segment l = says_bound_in (segments_of l.rest).ended ≡ says_bound_in (segments_of l.initial.rest).ended

abbrev pub decreases-loop-segment : goal.decreases-loop-segment
decreases-loop-segment l = length l.rest
