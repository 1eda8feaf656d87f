use Rattle.mate_tree.proofs.AddedLines.{text_more, words_all, words_more, words_none}
use Rattle.mate_tree.proofs.LegalMoves.{legal_at}
use Rattle.mate_tree.proofs.lines.push_attacks.Goals as goal

pub loop-index-init : goal.loop-index-init
loop-index-init g c = words_none c.args.writer.now

pub push_attack-requires : goal.push_attack-requires
push_attack-requires g c =
    legal_at c.legal_listed.ensures c.args.position.now c.args.moves.now c.loop-index.index c.index-moves-index.result
    c.loop-index-test.true c.index-moves-index.is c.requires

pub loop-index-preserved : goal.loop-index-preserved
loop-index-preserved g c =
    words_more c.loop-index-test.true c.index-moves-index.is c.loop-index.invariant (text_more c.push.ensures c.push_attack.ensures)

pub returns : goal.returns
returns g c = words_all c.loop-index-test.false c.loop-index.invariant
