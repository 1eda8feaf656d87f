use Rattle.std.proofs.Common.{◌≡◌}
use Rattle.mate_search.specs.RootResults.{AreTrueIn}
use Rattle.parallel_search.proofs.rounds.judge_ahead.Given as goal

abbrev pub invariant-loop-k : goal.invariant-loop-k
invariant-loop-k g l = record {
  told : AreTrueIn l.problem.position l.workers.told.items;
  room : l.memo.room ≡ l.fn.memo.room;
}
