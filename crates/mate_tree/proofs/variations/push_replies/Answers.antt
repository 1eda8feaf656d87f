use Rattle.mate_tree.proofs.AddedLines.{words_all, words_more, words_none}
use Rattle.mate_tree.proofs.LegalMoves.{legal_at}
use Rattle.mate_tree.proofs.variations.push_replies.Goals as goal

pub loop-index-init : goal.loop-index-init
loop-index-init g c = words_none c.args.writer.now

pub push_reply-requires-clause-second : goal.push_reply-requires-clause-second
push_reply-requires-clause-second g c =
    legal_at c.legal_listed.ensures c.args.position.now c.args.replies.now c.loop-index.index c.index-replies-index.result
    c.loop-index-test.true c.index-replies-index.is c.requires.legal

pub loop-index-preserved : goal.loop-index-preserved
loop-index-preserved g c =
    words_more c.loop-index-test.true c.index-replies-index.is c.loop-index.invariant c.push_reply.ensures

pub returns : goal.returns
returns g c = words_all c.loop-index-test.false c.loop-index.invariant
