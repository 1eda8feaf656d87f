use Rattle.std.proofs.Common.{ap, arith, sym, ◌∙◌}
use Rattle.chess_problems.specs.Problems.{ProblemValue}
use Rattle.uci_engine.specs.SearchLines.{line_of}
use Rattle.uci_engine.proofs.SearchLines.{line_more}
use Rattle.uci_engine.proofs.searcher.Searcher.push_key.Goals as goal

pub returns : goal.returns
returns c =
    line_more c.args.problem.now _ c.args.ranked.rank c.progress-progress.result.moves c.args.ranked.key c.in-Ok-Mate.field-0 c.as_slice.result.now
    c.args.text.now.items _ (rw (← c.problem.view_is) c.in-Some.ensures.some) c.in-Ok-Mate.ensures.truth
    (ap line_of c.in-Ok-Mate.field-0-is ∙ sym c.as_slice.ensures.value)
    (omega (arith, c.progress-progress.ensures, c.from.ensures, c.get.ensures.moves, ap (λ (q : ProblemValue). q.bound) c.problem.view_is))
    c.in_ok-push_mate.ensures
