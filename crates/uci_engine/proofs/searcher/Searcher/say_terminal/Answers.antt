use Rattle.std.proofs.Common.{ap}
use Rattle.chess_problems.specs.Problems.{ProblemValue}
use Rattle.uci_engine.proofs.SearchLines.{said_terminal}
use Rattle.uci_engine.proofs.searcher.Searcher.say_terminal.Goals as goal

pub say_of-requires : goal.say_of-requires
say_of-requires g c =
    said_terminal c.args.asked.now _ c.verdict.result c.in-Some.line.items (ap (λ (q : ProblemValue). q.position) c.asked.view_is)
    c.verdict.ensures (rw c.in-Some.is at c.in_ok-line.ensures)
