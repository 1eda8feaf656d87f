use Rattle.std.proofs.Common.{◌∙◌}
use Rattle.command_words.proofs.Tables.{one_more_argument}
use Rattle.command_words.proofs.command_line.args_of.Goals as goal

pub loop-argument-preserved : goal.loop-argument-preserved
loop-argument-preserved c =
    one_more_argument _ _ _ _ _ _ c.loop-argument-test.true c.loop-argument.invariant c.in_ok-push.ensures.items
    (c.arg_of.ensures.rule ∙ c.row_of.ensures) c.arg_of.ensures.local
