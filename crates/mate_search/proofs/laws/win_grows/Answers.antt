use Rattle.std.proofs.Common.{add-one}
use Rattle.mate_search.proofs.Wins.{win_more}
use Rattle.mate_search.proofs.laws.win_grows.Goals as goal

pub returns : goal.returns
returns c = λ n p w. rw (add-one n) (win_more n p w)
