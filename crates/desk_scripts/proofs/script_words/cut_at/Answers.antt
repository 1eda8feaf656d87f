use Rattle.std.proofs.Common.{eq-eqb}
use Rattle.desk_scripts.proofs.Cuts.{cut_here}
use Rattle.desk_scripts.proofs.script_words.cut_at.Goals as goal

pub returns-then-byte-separator : goal.returns-then-byte-separator
returns-then-byte-separator c = cut_here _ _ _ _ _ _ c.loop-index-test.true (eq-eqb _ _ c.if-byte-separator.true)
    c.loop-index.invariant c.split_at.ensures.front c.split_at-then-byte-separator.ensures.back
