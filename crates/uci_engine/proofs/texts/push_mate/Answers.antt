use Rattle.uci_engine.proofs.WrittenLines.{mate_of}
use Rattle.uci_engine.proofs.texts.push_mate.Goals as goal

pub returns : goal.returns
returns c =
    mate_of c.args.text.now.items c.push_depth.new.text.items c.push_count.new.text.items c.push_count-2.new.text.items
    c.push_costs.new.text.items c.push.new.text.items c.push_moves.new.text.items _ c.args.progress.now.moves c.args.rank
    c.args.pv.now c.in_ok-push_depth.ensures c.in_ok-push_count.ensures c.in_ok-push_count-2.ensures c.in_ok-push_costs.ensures c.in_ok-push.ensures
    c.in_ok-push_moves.ensures c.in_ok-push-2.ensures
