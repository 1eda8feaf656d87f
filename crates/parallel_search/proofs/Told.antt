-- What the results of workers tell.
use Rattle.std.proofs.Common.{◌≡◌, ℕ, ◌<◌, ◌++◌, List, [], ◌∷◌, length, get_or, sym, subst}
use Rattle.std.proofs.lemmas.List.Elements.{All-get_or, All-nil, All-push, All-append}
use Rattle.chess_board.specs.Positions.{Setup}
use Rattle.mate_search.specs.Wins.{leaves_lost}
use Rattle.mate_search.specs.declared.root_results.RootResult.{RootResult}
use Rattle.mate_search.specs.RootResults.{AreTrueIn}
use Rattle.parallel_search.specs.declared.workers.Worker.{Worker}
use Rattle.parallel_search.specs.inside.RootResults.{AreAllTrueIn}

-- none, one more, and those of others
pub none_true : (p : Setup) → AreTrueIn p []
unfolding AreTrueIn
none_true p = All-nil (λ v. v.is_lost ≡ leaves_lost v.k p v.m)

pub one_more_true : (p : Setup) (results : List RootResult) (v : RootResult) → AreTrueIn p results
    → v.is_lost ≡ leaves_lost v.k p v.m → AreTrueIn p (results ++ v ∷ [])
unfolding AreTrueIn
one_more_true p results v all told = All-push (λ u. u.is_lost ≡ leaves_lost u.k p u.m) results v all told

pub both_true : (p : Setup) (some others : List RootResult) → AreTrueIn p some → AreTrueIn p others → AreTrueIn p (some ++ others)
unfolding AreTrueIn
both_true p some others = All-append (λ v. v.is_lost ≡ leaves_lost v.k p v.m) some others

-- those of one worker, and of each
pub worker_true : (p : Setup) (workers : List Worker) (i : ℕ) (w : Worker) → AreAllTrueIn p workers → i < length workers
    → w ≡ get_or workers i w → AreTrueIn p w.found.items
unfolding AreAllTrueIn
worker_true p workers i w all on is =
    subst (λ u. AreTrueIn p u.found.items) (sym is) (All-get_or (λ u. AreTrueIn p u.found.items) workers i w on all)

pub each_true : (p : Setup) (workers : List Worker)
    → ((i : ℕ) (d : Worker) → i < length workers → AreTrueIn p (get_or workers i d).found.items) → AreAllTrueIn p workers
unfolding AreAllTrueIn
each_true p workers each = each
