use Rattle.std.proofs.Common.{◌≡◌, length}
use Rattle.std.specs.List.{list_any}
use Rattle.chess_notation.specs.Words.{words_in}
use Rattle.chess_notation.specs.Opcodes.{same_text}
use Rattle.chess_notation.specs.AvoidMoves.{without_suffix}
use Rattle.chess_notation.proofs.avoid_moves.have_name.Given as goal

abbrev pub invariant-loop-rest : goal.invariant-loop-rest
invariant-loop-rest l =
    list_any (λ word. same_text (without_suffix word) l.text) (words_in l.rest)
    ≡ list_any (λ word. same_text (without_suffix word) l.text) (words_in l.words)

abbrev pub decreases-loop-rest : goal.decreases-loop-rest
decreases-loop-rest l = length l.rest
