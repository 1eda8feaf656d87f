use Rattle.position_lines.proofs.PositionLines.{long_refused}
use Rattle.position_lines.proofs.position_replies.PositionsLineHandler.refuse_long.Goals as goal

pub returns-clause-reply : goal.returns-clause-reply
returns-clause-reply g c =
    long_refused (g.V.FenView.shown c.args.self.now.view.now) c.args.number (λ output. output.text.items) (λ output. output.refused) c.refusal.result
    c.refusal.ensures.text c.refusal.ensures.one
