use Rattle.std.proofs.Common.{◌≡◌, length}
use Rattle.chess_board.specs.Characters.{char}
use Rattle.stipulations.specs.Aims.{is_chess960}
use Rattle.stipulations.specs.OtherNumbers.{any_word}
use Rattle.stipulations.proofs.aims.has_chess960.Given as goal

abbrev pub invariant-loop-rest : goal.invariant-loop-rest
invariant-loop-rest l = any_word is_chess960 l.before l.rest ≡ any_word is_chess960 (char " ") l.text

abbrev pub decreases-loop-rest : goal.decreases-loop-rest
decreases-loop-rest l = length l.rest
