use Rattle.std.proofs.Common.{sym, ap, ◌∙◌}
use Rattle.mate_search.specs.Wins.{lost}
use Rattle.mate_search.proofs.reply_table.ReplyTable.judged.Goals as goal

pub returns-then-tells : goal.returns-then-tells
returns-then-tells c =
    let same = (c.equal_reads.ensures c.judged.inside.position c.args.position.now c.side-2.ensures.sound c.side.ensures.sound).0
    (sym c.is_same_position.ensures ∙ c.if-is_same_position.true) in
    c.tells.ensures c.args.position.now (c.judged.invariant ∙ ap (lost c.judged.inside.moves) same) c.if-tells.true
