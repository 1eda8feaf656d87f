use Rattle.mate_tree.proofs.LegalMoves.{legal_at}
use Rattle.mate_tree.proofs.variations.is_told.Goals as goal

pub follows-requires-clause-first : goal.follows-requires-clause-first
follows-requires-clause-first c =
    legal_at c.legal_listed.ensures c.args.position.now c.args.replies.now c.loop-index.index c.index-replies-index.result
    c.loop-index-test.true c.index-replies-index.is c.requires.legal
