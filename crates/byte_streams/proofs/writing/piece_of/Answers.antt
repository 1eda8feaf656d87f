use Rattle.std.proofs.Common.{arith, length-take-le, sym}
use Rattle.byte_streams.proofs.writing.piece_of.Goals as goal

pub slice_bounds-whole_lines-end : goal.slice_bounds-whole_lines-end
slice_bounds-whole_lines-end c = sym (length-take-le 4096 c.args.text.now (omega (arith, c.if-text-le-PIECE.false)))

pub returns-in_default : goal.returns-in_default
returns-in_default c =
    omega (arith, c.whole_lines.ensures, c.if-text-le-PIECE.false, length-take-le 4096 c.args.text.now (omega (arith, c.if-text-le-PIECE.false)))
