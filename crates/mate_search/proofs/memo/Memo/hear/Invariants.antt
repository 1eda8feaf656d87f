use Rattle.std.proofs.Common.{◌≡◌}
use Rattle.mate_search.proofs.memo.Memo.hear.Given as goal

abbrev pub invariant-loop : goal.invariant-loop
invariant-loop l = l.self.room ≡ l.fn.self.room
