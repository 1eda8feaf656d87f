use Rattle.std.proofs.Common.{◌≡◌, length}
use Rattle.chess_board.specs.Characters.{char}
use Rattle.stipulations.specs.OtherNumbers.{any_word, is_number}
use Rattle.stipulations.proofs.other_numbers.has_number.Given as goal

abbrev pub invariant-loop-rest : goal.invariant-loop-rest
invariant-loop-rest l = any_word is_number l.before l.rest ≡ any_word is_number (char " ") l.text

abbrev pub decreases-loop-rest : goal.decreases-loop-rest
decreases-loop-rest l = length l.rest
