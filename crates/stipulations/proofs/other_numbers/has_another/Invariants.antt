use Rattle.std.proofs.Common.{◌≡◌, length}
use Rattle.chess_board.specs.Characters.{char}
use Rattle.stipulations.specs.OtherNumbers.{any_word, is_neither}
use Rattle.stipulations.proofs.other_numbers.has_another.Given as goal

abbrev pub invariant-loop-rest : goal.invariant-loop-rest
invariant-loop-rest l = any_word is_neither l.before l.rest ≡ any_word is_neither (char " ") l.text

abbrev pub decreases-loop-rest : goal.decreases-loop-rest
decreases-loop-rest l = length l.rest
