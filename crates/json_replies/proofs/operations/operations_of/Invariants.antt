use Rattle.std.proofs.Common.{◌≡◌, ◌++◌, length, map}
use Rattle.chess_notation.specs.Segments.{segments_of}
use Rattle.json_replies.proofs.operations.operations_of.Given as goal

abbrev pub invariant-loop-operation : goal.invariant-loop-operation
invariant-loop-operation l = (segments_of l.text).ended ≡ map (λ o. o.now) l.operations.items ++ (segments_of l.rest).ended

abbrev pub decreases-loop-operation : goal.decreases-loop-operation
decreases-loop-operation l = length l.rest
