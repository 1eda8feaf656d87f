use Rattle.std.proofs.Common.{map}
use Rattle.chess_notation.proofs.TextPlaces.{GoesBehind}
use Rattle.chess_notation.proofs.answers.text_place.Given as goal

abbrev pub invariant-loop-index : goal.invariant-loop-index
invariant-loop-index l = GoesBehind (map (λ t. t.bytes) l.texts) l.text l.index
