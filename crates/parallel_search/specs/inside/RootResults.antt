-- Not for believing: what holds of the results of workers. No contract of a public call rests on it.
use Rattle.std.specs.Prelude.{List, All}
use Rattle.chess_board.specs.Positions.{Setup}
use Rattle.mate_search.specs.RootResults.{AreTrueIn}
use Rattle.parallel_search.specs.declared.workers.Worker.{Worker}

-- The results of each worker are true.
unfoldable pub AreAllTrueIn : Setup → List Worker → Type 0
AreAllTrueIn p workers = All (λ w. AreTrueIn p w.found.items) workers
