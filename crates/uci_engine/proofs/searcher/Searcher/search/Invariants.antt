use Rattle.std.proofs.Common.{◌≡◌}
use Rattle.uci_engine.specs.SearchLines.{HasNone}
use Rattle.uci_engine.proofs.searcher.Searcher.search.Given as goal

abbrev pub invariant-loop-before : goal.invariant-loop-before
invariant-loop-before g l = record {
  none : HasNone l.asked l.before;
  last : l.last.items ≡ l.initial.last.items;
}
