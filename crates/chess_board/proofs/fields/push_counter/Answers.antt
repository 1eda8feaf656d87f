use Rattle.std.proofs.Common.{◌≡◌, ◌∙◌, ◌+◌, ◌≤◌, ◌∷◌, [], length, arith, length-append, ap}
use Rattle.std.specs.Prelude.{decimal}
use Rattle.std.proofs.lemmas.Fmt.{length-decimal-le}
use Rattle.chess_board.proofs.fields.push_counter.Goals as goal

pub push_str-requires : goal.push_str-requires
push_str-requires c =
    let short : length (decimal c.args.n) ≤ 4 = length-decimal-le 4 c.args.n (omega arith) (omega arith) (omega arith) in
    let before : length c.push.new.self.bytes ≡ length c.args.text.now.bytes + 1 =
    ap length (c.push.ensures.ascii (omega arith)) ∙ length-append c.args.text.now.bytes (32 ∷ []) in
    let digits = ap length c.format.ensures.text in
    (omega arith, omega arith)

pub returns-clause-short : goal.returns-clause-short
returns-clause-short c =
    let short : length (decimal c.args.n) ≤ 4 = length-decimal-le 4 c.args.n (omega arith) (omega arith) (omega arith) in
    let before : length c.push.new.self.bytes ≡ length c.args.text.now.bytes + 1 =
    ap length (c.push.ensures.ascii (omega arith)) ∙ length-append c.args.text.now.bytes (32 ∷ []) in
    let digits = ap length c.format.ensures.text in
    omega (arith, c.push_str.ensures.len)
