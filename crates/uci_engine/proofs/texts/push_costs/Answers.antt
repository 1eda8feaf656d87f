use Rattle.uci_engine.proofs.WrittenLines.{costs_of}
use Rattle.uci_engine.proofs.texts.push_costs.Goals as goal

pub returns : goal.returns
returns c =
    costs_of c.args.text.now.items c.push_count.new.text.items c.push_count-2.new.text.items _ c.args.costs.now.nodes c.args.costs.now.time _
    c.in_ok-push_count.ensures c.in_ok-push_count-2.ensures c.in_ok-push_count-3.ensures
