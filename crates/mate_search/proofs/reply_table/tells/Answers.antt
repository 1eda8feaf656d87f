use Rattle.std.proofs.Common.{sym, ◌∙◌}
use Rattle.std.proofs.lemmas.Bool.{leb-true}
use Rattle.mate_search.proofs.Known.{lost_within_more, not_lost_within_fewer}
use Rattle.mate_search.proofs.reply_table.tells.Goals as goal

pub returns-then-is_lost : goal.returns-then-is_lost
returns-then-is_lost c = λ p e t. c.if-is_lost.true
    ∙ sym (lost_within_more c.args.judged c.args.moves p (leb-true c.args.judged c.args.moves t) (sym e ∙ c.if-is_lost.true))

pub returns-else-is_lost : goal.returns-else-is_lost
returns-else-is_lost c = λ p e t. c.if-is_lost.false
    ∙ sym (not_lost_within_fewer c.args.judged c.args.moves p (leb-true c.args.moves c.args.judged t) (sym e ∙ c.if-is_lost.false))
