use Rattle.std.proofs.Common.{◌≡◌, length}
use Rattle.chess_board.specs.Characters.{char}
use Rattle.stipulations.specs.OtherNumbers.{any_word, is_beside}
use Rattle.stipulations.proofs.other_numbers.has_word_beside.Given as goal

abbrev pub invariant-loop-rest : goal.invariant-loop-rest
invariant-loop-rest l = any_word is_beside l.before l.rest ≡ any_word is_beside (char " ") l.text

abbrev pub decreases-loop-rest : goal.decreases-loop-rest
decreases-loop-rest l = length l.rest
