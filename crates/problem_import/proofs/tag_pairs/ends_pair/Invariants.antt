use Rattle.std.proofs.Common.{◌≡◌, length}
use Rattle.problem_import.specs.TagPairs.{ends_pair}
use Rattle.problem_import.proofs.tag_pairs.ends_pair.Given as goal

abbrev pub invariant-loop-rest : goal.invariant-loop-rest
invariant-loop-rest l = ends_pair l.rest ≡ ends_pair l.text

abbrev pub decreases-loop-rest : goal.decreases-loop-rest
decreases-loop-rest l = length l.rest
