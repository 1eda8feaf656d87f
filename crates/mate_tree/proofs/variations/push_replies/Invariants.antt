use Rattle.mate_tree.specs.Variations.{reply_word}
use Rattle.mate_tree.proofs.AddedLines.{SomeWords}
use Rattle.mate_tree.proofs.variations.push_replies.Given as goal

-- the replies so far
abbrev pub invariant-loop-index : goal.invariant-loop-index
invariant-loop-index g l =
    SomeWords g.O.Write.contents l.initial.writer l.writer (reply_word l.position l.r) l.replies l.index
