use Rattle.std.proofs.Common.{subst, sym}
use Rattle.uci_engine.specs.SearchLines.{AreKeyLines, none}
use Rattle.uci_engine.proofs.searcher.Searcher.more_lines.Goals as goal

pub loop-key-init : goal.loop-key-init
loop-key-init c = subst (AreKeyLines c.args.problem.now) (sym c.new-text.ensures.items) none
