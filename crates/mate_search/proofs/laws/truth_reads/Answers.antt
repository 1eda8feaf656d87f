use Rattle.mate_search.proofs.PrincipalVariations.{truth_reads}
use Rattle.mate_search.proofs.laws.truth_reads.Goals as goal

pub returns : goal.returns
returns c = truth_reads c.legal_rise.ensures c.same_move_reads.ensures
