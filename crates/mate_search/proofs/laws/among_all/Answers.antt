use Rattle.mate_search.proofs.Playing.{all_among}
use Rattle.mate_search.proofs.laws.among_all.Goals as goal

pub returns : goal.returns
returns c = all_among
