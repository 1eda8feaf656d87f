use Rattle.std.proofs.Common.{◌≡◌, take}
use Rattle.plain_commands.specs.Replayed.{reply_lines}
use Rattle.plain_commands.proofs.replaying.reply_lines.Given as goal

abbrev pub invariant-loop-reply : goal.invariant-loop-reply
invariant-loop-reply l = l.text.items ≡ reply_lines (take l.reply-index l.replies)
