use Rattle.std.proofs.Common.{sym, ◌∙◌}
use Rattle.mate_tree.proofs.AddedLines.{lines_all, lines_closed, lines_more, lines_none}
use Rattle.mate_tree.proofs.LegalMoves.{legal_at}
use Rattle.mate_tree.proofs.keys.write_keys.Goals as goal

pub loop-index-init : goal.loop-index-init
loop-index-init g c = lines_none c.args.writer.now

pub returns-then-is_closed : goal.returns-then-is_closed
returns-then-is_closed g c =
    lines_closed (sym c.is_closed.ensures ∙ c.if-is_closed.true) c.loop-index.invariant

pub write_key-requires-clause-legal : goal.write_key-requires-clause-legal
write_key-requires-clause-legal g c =
    legal_at c.legal_listed.ensures c.args.position.now c.args.keys.now c.loop-index.index c.index-keys-index.result
    c.loop-index-test.true c.index-keys-index.is c.requires.legal

pub loop-index-preserved : goal.loop-index-preserved
loop-index-preserved g c =
    lines_more c.loop-index-test.true c.index-keys-index.is c.loop-index.invariant c.write_key.ensures

pub returns : goal.returns
returns g c =
    lines_all c.loop-index-test.false c.loop-index.invariant
