use Rattle.std.proofs.Common.{◌∙◌}
use Rattle.mate_search.proofs.Told.{none_told}
use Rattle.mate_search.proofs.Playable.{told_playable}
use Rattle.mate_search.proofs.solving.solve.Goals as goal

pub find-requires-clause-told : goal.find-requires-clause-told
find-requires-clause-told c = none_told c.args.problem.now.position

pub returns-clause-playable : goal.returns-clause-playable
returns-clause-playable c =
    told_playable c.args.problem.now c.into_outcome.result c.legal_listed.ensures (c.into_outcome.ensures ∙ c.in-Ok.ensures.truth)
