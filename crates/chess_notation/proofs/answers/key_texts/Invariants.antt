use Rattle.std.proofs.Common.{◌≡◌, drop, map}
use Rattle.chess_notation.specs.SanText.{san_text}
use Rattle.chess_notation.specs.Answers.{in_order}
use Rattle.chess_notation.proofs.answers.key_texts.Given as goal

abbrev pub invariant-loop-index : goal.invariant-loop-index
invariant-loop-index l = map (λ t. t.bytes) l.texts.items ≡ in_order (map (san_text l.position) (drop l.index l.keys))
