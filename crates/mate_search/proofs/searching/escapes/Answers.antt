use Rattle.mate_search.proofs.Wins.{escaped}
use Rattle.mate_search.proofs.searching.escapes.Goals as goal

pub returns : goal.returns
returns c = λ e. escaped c.legal_listed.ensures c.args.position.now (c.king_escapes.ensures e)
