use Rattle.std.proofs.Common.{◌≡◌, length}
use Rattle.fen_explanations.specs.Ranks.{has_runs_together}
use Rattle.fen_explanations.proofs.ranks.has_runs_together.Given as goal

abbrev pub invariant-loop-rest : goal.invariant-loop-rest
invariant-loop-rest l = has_runs_together l.rest ≡ has_runs_together l.text

abbrev pub decreases-loop-rest : goal.decreases-loop-rest
decreases-loop-rest l = length l.rest
