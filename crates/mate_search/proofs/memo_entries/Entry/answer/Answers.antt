use Rattle.std.proofs.Common.{sym}
use Rattle.mate_search.proofs.Known.{win_within_more, no_win_within_fewer}
use Rattle.mate_search.proofs.memo_entries.Entry.answer.Goals as goal

pub returns-then-n-self : goal.returns-then-n-self
returns-then-n-self c = λ p h. sym (no_win_within_fewer c.args.self.none_within c.args.n p c.if-n-self.true h.none)

pub returns-in-Some : goal.returns-in-Some
returns-in-Some c = λ p h. sym (win_within_more c.in-Some.k c.args.n p c.if-k-n.true (h.won c.in-Some.k c.in-Some.is))
