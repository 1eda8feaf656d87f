use Rattle.std.proofs.Common.{◌≡◌, ◌+◌, ◌++◌, ◌<◌, ℕ, List, [], get_or, length, sym, take, arith}
use Rattle.std.proofs.lemmas.List.{flat_map_more, take_more}
use Rattle.chess_views.specs.Lines.{line}
use Rattle.mate_desk.specs.ReplyTexts.{reply_text}
use Rattle.mate_desk.specs.declared.steps_and_replies.Reply.{Reply}
use Rattle.plain_commands.specs.Replayed.{reply_lines}
use Rattle.plain_commands.proofs.replaying.reply_lines.Goals as goal

reply_lines_more : (replies : List Reply) (i : ℕ) (reply : Reply) → i < length replies → reply ≡ get_or replies i reply
    → reply_lines (take (i + 1) replies) ≡ reply_lines (take i replies) ++ line (reply_text reply)
unfolding reply_lines
reply_lines_more replies i reply within is =
    rw (take_more replies i reply within, ← is) (sym (flat_map_more (λ r. line (reply_text r)) [] (take i replies) reply))

pub loop-reply-preserved : goal.loop-reply-preserved
loop-reply-preserved c =
    let more = reply_lines_more c.args.replies.now c.loop-reply.reply-index c.reply-item.result (omega arith) c.reply-item.is in
    cc (more, c.in_ok-push_line.ensures, c.in_ok-words.ensures, c.as_str.ensures.value)
