-- What results tell of a move.
use Rattle.std.proofs.Common.{◌≡◌, ℕ, ◌<◌, true, List, [], length, get_or, sym, subst}
use Rattle.std.proofs.lemmas.List.Elements.{All-get_or, All-nil}
use Rattle.chess_board.specs.Positions.{Setup}
use Rattle.chess_board.specs.Moves.{Move}
use Rattle.chess_problems.specs.SameProblems.{is_same_move, SameMoveReads}
use Rattle.mate_search.specs.Wins.{leaves_lost}
use Rattle.mate_search.specs.declared.root_results.RootResult.{RootResult}
use Rattle.mate_search.specs.RootResults.{AreTrueIn}

-- one that is found on the same move
pub result_told : SameMoveReads → (k : ℕ) (p : Setup) (results : List RootResult) (i : ℕ) (v : RootResult) (m : Move) → AreTrueIn p results
    → i < length results → v ≡ get_or results i v → v.k ≡ k → is_same_move v.m m ≡ true → v.is_lost ≡ leaves_lost k p m
unfolding AreTrueIn
result_told same k p results i v m all on is more e =
    let told : v.is_lost ≡ leaves_lost v.k p v.m = subst (λ u. u.is_lost ≡ leaves_lost u.k p u.m) (sym is)
    (All-get_or (λ u. u.is_lost ≡ leaves_lost u.k p u.m) results i v on all) in
    subst (λ n. v.is_lost ≡ leaves_lost k p n) ((same v.m m).0 e) (subst (λ n. v.is_lost ≡ leaves_lost n p v.m) more told)

pub none_told : (p : Setup) → AreTrueIn p []
unfolding AreTrueIn
none_told p = All-nil (λ v. v.is_lost ≡ leaves_lost v.k p v.m)
