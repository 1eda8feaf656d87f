use Rattle.std.proofs.Common.{◌≡◌, [], length}
use Rattle.stipulations.specs.Aims.{have_pair}
use Rattle.stipulations.specs.Words.{words_of}
use Rattle.stipulations.proofs.aims.has_pair.Given as goal

abbrev pub invariant-loop-before : goal.invariant-loop-before
invariant-loop-before l = have_pair l.before (words_of l.rest) ≡ have_pair [] (words_of l.text)

abbrev pub decreases-loop-before : goal.decreases-loop-before
decreases-loop-before l = length l.rest
