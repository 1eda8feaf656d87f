use Rattle.std.proofs.Common.{arith, subst, sym}
use Rattle.text_lines.specs.inside.InputLines.{IsOneLine}
use Rattle.text_lines.proofs.InputLines.{one_line_more, one_line_whole, split_there}
use Rattle.text_lines.proofs.input_lines.cut_line.Goals as goal

pub loop-index-preserved : goal.loop-index-preserved
loop-index-preserved c = one_line_more c.args.text.now c.loop-index.index c.loop-index-test.true c.loop-index.invariant c.if-byte-eq10.false

pub returns-clause-none : goal.returns-clause-none
returns-clause-none c = one_line_whole c.args.text.now c.loop-index.index (omega arith) c.loop-index.invariant

pub returns-then-byte-eq10-clause-line : goal.returns-then-byte-eq10-clause-line
returns-then-byte-eq10-clause-line c = subst IsOneLine (sym c.split_at.ensures.front) c.loop-index.invariant

pub returns-then-byte-eq10-clause-cut : goal.returns-then-byte-eq10-clause-cut
returns-then-byte-eq10-clause-cut c =
    rw (c.split_at.ensures.front, c.split_at-then-byte-eq10.ensures.back)
    (split_there c.args.text.now c.loop-index.index c.loop-index-test.true c.if-byte-eq10.true)
