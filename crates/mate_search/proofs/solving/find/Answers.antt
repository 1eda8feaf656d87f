use Rattle.std.proofs.Common.{◌==◌, length, ap, sym, ◌∙◌}
use Rattle.chess_problems.specs.Problems.{ProblemValue}
use Rattle.mate_search.proofs.FirstMoves.{all_may_begin}
use Rattle.mate_search.proofs.solving.find.Goals as goal

pub find_of_all-dm-requires-clause-all : goal.find_of_all-dm-requires-clause-all
find_of_all-dm-requires-clause-all g c = all_may_begin c.args.problem.now
    (ap (λ (q : ProblemValue). length q.avoid == 0) (sym c.problem.view_is) ∙ sym c.is_empty.ensures ∙ c.if-is_empty.true)
