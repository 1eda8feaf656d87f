use Rattle.uci_engine.proofs.WrittenLines.{length_of}
use Rattle.uci_engine.proofs.texts.push_length.Goals as goal

pub returns : goal.returns
returns c = length_of c.args.text.now.items c.push_depth.new.text.items c.push_costs.new.text.items _ c.args.progress.now.moves
    c.in_ok-push_depth.ensures c.in_ok-push_costs.ensures c.in_ok-push.ensures
