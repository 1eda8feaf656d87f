use Rattle.fen_explanations.proofs.ranks.push_runs.Goals as goal

pub returns : goal.returns
returns c = rw (← c.has_runs_together.ensures) c.push_if.ensures
