use Rattle.command_words.proofs.Tables.{one_more_command}
use Rattle.command_words.proofs.command_line.commands_of.Goals as goal

pub loop-name-preserved : goal.loop-name-preserved
loop-name-preserved c =
    one_more_command _ _ _ _ _ _ c.loop-name-test.true c.loop-name.invariant c.in_ok-push.ensures.items c.in_ok-command_of.ensures
