use Rattle.std.proofs.Common.{◌≡◌, decimal, rules}
use Rattle.chess_notation.specs.SanText.{san_text}
use Rattle.mate_tree.proofs.AddedLines.{text_more}
use Rattle.mate_tree.proofs.lines.push_move.Goals as goal

pub returns : goal.returns
returns g c =
    let digits : c.as_bytes.result.now ≡ decimal c.args.number = search rules in
    let moved : c.as_bytes-2.result.now ≡ san_text c.args.position.now c.args.m = search rules in
    rw (← digits, ← moved) (text_more (text_more c.push.ensures c.push-2.ensures) c.push-3.ensures)
