use Rattle.std.proofs.Common.{◌≡◌, length}
use Rattle.chess_notation.specs.Segments.{segments_of}
use Rattle.chess_notation.proofs.segments.last_rest.Given as goal

abbrev pub invariant-loop-back : goal.invariant-loop-back
invariant-loop-back l = (segments_of l.rest).rest ≡ (segments_of l.text).rest

abbrev pub decreases-loop-back : goal.decreases-loop-back
decreases-loop-back l = length l.rest
