use Rattle.std.proofs.Common.{refl, ◌+◌, ◌∙◌, sym, ap, arith}
use Rattle.chess_notation.specs.Records.{RecordValue}
use Rattle.chess_problems.specs.Problems.{ProblemValue}
use Rattle.mate_search.specs.inside.Truth.{truth}
use Rattle.mate_answers.specs.LimitedReplies.{problem_within}
use Rattle.mate_answers.proofs.Limits.{none_within_zero, truth_kept}
use Rattle.mate_answers.proofs.limited_replies.decide.Goals as goal

pub loop-none-init : goal.loop-none-init
loop-none-init g c =
    let asked = c.problem-problem.ensures in
    record {
      none = none_within_zero c.args.record.now;
      asks = asked ∙ ap (λ n. problem_within n c.args.record.now) (sym (ap (λ q. q.bound) asked));
      room = refl;
    }

pub returns-then-not-is_no_mate-clause-truth : goal.returns-then-not-is_no_mate-clause-truth
returns-then-not-is_no_mate-clause-truth g c =
    let r = c.args.record.now in
    let asks = c.problem.view_is ∙ c.loop-none.invariant.asks in
    let told = c.in-Ok.ensures.truth
    ∙ ap (λ (q : ProblemValue). truth (record { position = q.position; bound = c.one_more-problem-inside.result; avoid = q.avoid })) asks
    ∙ ap (λ n. truth (problem_within n r)) c.one_more-problem-inside.ensures in
    let within = ap (λ (s : RecordValue). s.bound) c.record.view_is in
    sym (truth_kept r (c.loop-none.none + 1) c.in-Ok.outcome
    (omega (arith, c.loop-none-test.true, c.get-none-end.ensures.moves, within))
    (sym told) (c.is_no_mate.ensures.no c.if-not-is_no_mate.true))

pub loop-none-preserved : goal.loop-none-preserved
loop-none-preserved g c =
    let r = c.args.record.now in
    let asks = ap (λ (q : ProblemValue). record { position = q.position; bound = c.one_more-problem-inside.result; avoid = q.avoid })
    (c.problem.view_is ∙ c.loop-none.invariant.asks) in
    let told = c.in-Ok.ensures.truth ∙ ap truth asks ∙ ap (λ n. truth (problem_within n r)) c.one_more-problem-inside.ensures in
    record {
      none = sym told ∙ c.is_no_mate.ensures.yes c.if-not-is_no_mate.false;
      asks = asks;
      room = c.solve.ensures.room ∙ c.loop-none.invariant.room;
    }
