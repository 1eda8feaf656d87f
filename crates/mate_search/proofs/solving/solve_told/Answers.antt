use Rattle.std.proofs.Common.{◌∙◌}
use Rattle.mate_search.proofs.Playable.{told_playable}
use Rattle.mate_search.proofs.solving.solve_told.Goals as goal

pub returns-clause-playable : goal.returns-clause-playable
returns-clause-playable g c =
    told_playable c.args.problem.now c.into_outcome.result c.legal_listed.ensures (c.into_outcome.ensures ∙ c.in_ok-dm.ensures.truth)
