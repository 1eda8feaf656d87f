use Rattle.std.proofs.Common.{◌≡◌, [], length}
use Rattle.stipulations.specs.Aims.{say_mate_within}
use Rattle.stipulations.specs.Words.{words_of}
use Rattle.stipulations.proofs.aims.says_mate_within.Given as goal

abbrev pub invariant-loop-before : goal.invariant-loop-before
invariant-loop-before l = say_mate_within l.before (words_of l.rest) ≡ say_mate_within [] (words_of l.text)

abbrev pub decreases-loop-before : goal.decreases-loop-before
decreases-loop-before l = length l.rest
