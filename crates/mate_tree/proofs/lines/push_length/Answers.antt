use Rattle.std.proofs.Common.{◌≡◌, ◌==◌, true, decimal, rules, arith}
use Rattle.std.specs.Prelude.{nat_lt}
use Rattle.std.proofs.lemmas.Bool.Decides.{nat_tests}
use Rattle.mate_tree.proofs.AddedLines.{text_more}
use Rattle.mate_tree.proofs.lines.push_length.Goals as goal

pub returns : goal.returns
returns g c =
    let none : (c.args.shown == 0) ≡ true = grind (arith, nat_tests, c.if-shown-ne0.false) in
    let long : nat_lt 1 c.args.n ≡ true = grind (arith, nat_tests, c.if-n-le1.false) in
    let digits : c.as_bytes.result.now ≡ decimal c.args.n = search rules in
    rw (none, long, ← digits) (text_more c.push.ensures c.push-2.ensures)
