use Rattle.std.proofs.Common.{◌≡◌, length}
use Rattle.mate_search.proofs.peers.connect_peers.Given as goal

abbrev pub invariant-loop : goal.invariant-loop
invariant-loop l = length l.all.items ≡ l.counter

abbrev pub invariant-loop-teller : goal.invariant-loop-teller
invariant-loop-teller l = length l.all.items ≡ l.count

abbrev pub invariant-loop-hearer : goal.invariant-loop-hearer
invariant-loop-hearer l = length l.all.items ≡ l.count
