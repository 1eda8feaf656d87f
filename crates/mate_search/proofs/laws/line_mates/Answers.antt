use Rattle.mate_search.proofs.Playing.{line_mates}
use Rattle.mate_search.proofs.laws.line_mates.Goals as goal

pub returns : goal.returns
returns c = line_mates
