use Rattle.mate_search.specs.RootResults.{AreTrueIn}
use Rattle.parallel_search.specs.inside.RootResults.{AreAllTrueIn}
use Rattle.chess_board.specs.Positions.{Setup}
use Rattle.parallel_search.proofs.rounds.keep_found.Given as goal

abbrev pub invariant-loop-worker : goal.invariant-loop-worker
invariant-loop-worker l = (p : Setup) → AreAllTrueIn p l.workers → AreTrueIn p l.fn.told.items → AreTrueIn p l.told.items
