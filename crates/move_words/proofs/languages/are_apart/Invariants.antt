use Rattle.std.proofs.Common.{◌≡◌, length}
use Rattle.move_words.specs.Languages.{are_apart}
use Rattle.move_words.proofs.languages.are_apart.Given as goal

abbrev pub invariant-loop-rest : goal.invariant-loop-rest
invariant-loop-rest l = are_apart l.rest ≡ are_apart l.text

abbrev pub decreases-loop-rest : goal.decreases-loop-rest
decreases-loop-rest l = length l.rest
