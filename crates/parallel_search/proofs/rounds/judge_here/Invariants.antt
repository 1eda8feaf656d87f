use Rattle.std.proofs.Common.{◌≡◌}
use Rattle.mate_search.specs.RootResults.{AreTrueIn}
use Rattle.parallel_search.proofs.rounds.judge_here.Given as goal

abbrev pub invariant-loop-m : goal.invariant-loop-m
invariant-loop-m g l = record {
  told : AreTrueIn l.asked.position.now l.told.items;
  room : l.memo.room ≡ l.fn.memo.room;
}
