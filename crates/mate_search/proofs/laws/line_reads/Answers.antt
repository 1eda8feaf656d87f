use Rattle.mate_search.proofs.PrincipalVariations.{line_reads}
use Rattle.mate_search.proofs.laws.line_reads.Goals as goal

pub returns : goal.returns
returns c = line_reads c.legal_rise.ensures
