use Rattle.text_lines.proofs.LineReplies.{replies_next}
use Rattle.text_lines.proofs.replies.replies_go_on.Goals as goal

pub returns : goal.returns
returns g c handler = replies_next (g.H.LineHandler.replies handler)
