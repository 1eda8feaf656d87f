use Rattle.uci_engine.specs.SearchLines.{AreKeyLines}
use Rattle.uci_engine.proofs.searcher.Searcher.more_lines.Given as goal

abbrev pub invariant-loop-key : goal.invariant-loop-key
invariant-loop-key l = AreKeyLines l.problem l.text.items
