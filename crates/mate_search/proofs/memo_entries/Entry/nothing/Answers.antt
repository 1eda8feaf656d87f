use Rattle.std.proofs.Common.{refl}
use Rattle.mate_search.proofs.Wins.{win_none}
use Rattle.mate_search.proofs.memo_entries.Entry.nothing.Goals as goal

pub returns : goal.returns
returns c = λ p sound. record { sound = sound; none = win_none 0 p refl; won = λ n e. cc }
