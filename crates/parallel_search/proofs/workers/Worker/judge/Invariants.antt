use Rattle.std.proofs.Common.{◌≤◌}
use Rattle.arrayvec.specs.ArrayVec.{array_vec_len}
use Rattle.mate_search.specs.RootResults.{AreTrueIn}
use Rattle.parallel_search.proofs.workers.Worker.judge.Given as goal

abbrev pub invariant-loop : goal.invariant-loop
invariant-loop g l = record {
  told : AreTrueIn l.asked.position.now l.self.found.items;
  few : array_vec_len l.self.found ≤ l.counter;
  counted : array_vec_len l.self.costs ≤ l.counter;
}
