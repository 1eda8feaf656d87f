use Rattle.std.proofs.Common.{◌≡◌, length}
use Rattle.chess_notation.specs.Segments.{segments_of}
use Rattle.chess_notation.specs.Claims.{keys_text_in}
use Rattle.chess_notation.proofs.claims.keys_text.Given as goal

abbrev pub invariant-loop-segment : goal.invariant-loop-segment
invariant-loop-segment l = keys_text_in (segments_of l.rest).ended ≡ keys_text_in (segments_of l.text).ended

abbrev pub decreases-loop-segment : goal.decreases-loop-segment
decreases-loop-segment l = length l.rest
