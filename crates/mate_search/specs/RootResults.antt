-- Results on first moves.
use Rattle.std.specs.Prelude.{◌≡◌, ◌==◌, ◌&&◌, ℕ, Bool, List, All}
use Rattle.chess_board.specs.Positions.{Setup}
use Rattle.chess_board.specs.Moves.{Move}
use Rattle.chess_problems.specs.SameProblems.{is_same_move}
use Rattle.mate_search.specs.Wins.{leaves_lost}
use Rattle.mate_search.specs.declared.root_results.RootResult.{RootResult}

-- Each result is true in this position: exactly where it says so, its move leaves the defender lost with as many moves more as it says.
unfoldable pub AreTrueIn : Setup → List RootResult → Type 0
AreTrueIn p results = All (λ v. v.is_lost ≡ leaves_lost v.k p v.m) results

-- It is on this move, with as many moves more.
abbrev pub is_on : Move → ℕ → RootResult → Bool
is_on m k v = (v.k == k) && is_same_move v.m m
