use Rattle.std.proofs.Common.{refl, ◌+◌, ◌∙◌, sym, ap, arith}
use Rattle.chess_problems.specs.Problems.{ProblemValue}
use Rattle.mate_search.specs.inside.Truth.{truth}
use Rattle.file_solving.proofs.Within.{none_within_zero, problem_within, truth_kept}
use Rattle.file_solving.proofs.lengths.solve_by_length.Goals as goal

pub loop-none-init : goal.loop-none-init
loop-none-init g c = record { none = none_within_zero c.args.problem.now; room = refl }

pub returns-then-not-is_no_mate-clause-truth : goal.returns-then-not-is_no_mate-clause-truth
returns-then-not-is_no_mate-clause-truth g c =
    let q = c.args.problem.now in
    let told = c.in_ok-outcome.ensures.truth ∙ ap truth c.within.ensures ∙ ap (λ n. truth (problem_within n q)) c.one_more-bound.ensures in
    let bound = ap (λ (s : ProblemValue). s.bound) c.problem.view_is in
    sym (truth_kept c.dist_reads.ensures q (c.loop-none.none + 1) c.in_ok-outcome.outcome
    (omega (arith, c.loop-none-test.true, c.get-none-end.ensures.moves, bound))
    (sym told) (c.is_no_mate.ensures.no c.if-not-is_no_mate.true))
