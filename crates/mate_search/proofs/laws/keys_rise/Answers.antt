use Rattle.mate_search.proofs.MoveOrder.{keys_rise}
use Rattle.mate_search.proofs.laws.keys_rise.Goals as goal

pub returns : goal.returns
returns c = keys_rise
