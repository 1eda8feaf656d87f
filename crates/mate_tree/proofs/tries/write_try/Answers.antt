use Rattle.std.proofs.Common.{◌≡◌, rules}
use Rattle.chess_board.specs.MakeMove.{after_setup}
use Rattle.chess_notation.specs.SanText.{san_text}
use Rattle.mate_tree.proofs.AddedLines.{adds_line, adds_none, text_more}
use Rattle.mate_tree.proofs.tries.write_try.Goals as goal

pub returns-in-Some : goal.returns-in-Some
returns-in-Some g c =
    let moved : c.as_bytes.result.now ≡ san_text (after_setup c.args.position.now c.args.m) c.in-Some.r = search rules in
    rw (c.in-Some.is, ← moved)
    (adds_line c.begin.ensures (text_more (text_more (text_more (text_more c.push.ensures c.push_attack.ensures) c.push-in-Some.ensures)
    c.push-in-Some-2.ensures) c.push-in-Some-3.ensures) c.end.ensures)

pub returns-in-None : goal.returns-in-None
returns-in-None g c = rw (c.in-None.is) (adds_none c.args.writer.now)
