use Rattle.std.proofs.Common.{◌≤◌}
use Rattle.arrayvec.specs.ArrayVec.{array_vec_len}
use Rattle.parallel_search.proofs.rounds.in_order.Given as goal

abbrev pub invariant-loop-place : goal.invariant-loop-place
invariant-loop-place l = array_vec_len l.order ≤ l.place
