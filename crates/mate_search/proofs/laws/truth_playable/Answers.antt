use Rattle.mate_search.proofs.Playable.{truth_playable}
use Rattle.mate_search.proofs.laws.truth_playable.Goals as goal

pub returns : goal.returns
returns c = truth_playable c.legal_listed.ensures
