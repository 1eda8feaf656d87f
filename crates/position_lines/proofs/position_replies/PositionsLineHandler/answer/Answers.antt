use Rattle.std.proofs.Common.{◌≡◌, ◌∙◌, subst}
use Rattle.chess_board.specs.Fens.{IsFault, Spells}
use Rattle.position_lines.specs.LineFens.{line_fen}
use Rattle.position_lines.specs.PositionReplies.{answered}
use Rattle.position_lines.proofs.PositionLines.{reply_refused}
use Rattle.position_lines.proofs.position_replies.PositionsLineHandler.answer.Goals as goal

pub returns-in-Ok-clause-reply : goal.returns-in-Ok-clause-reply
returns-in-Ok-clause-reply g c =
    let says : c.as_slice.result.now ≡ line_fen c.args.line.now = c.as_slice.ensures.value ∙ c.in_ok-text.ensures in
    let (spells, sound) = (c.read_fen.ensures.exact c.in-Ok.fen).0 c.in-Ok.is in
    rw (c.in_ok-text-in-Ok.ensures)
    (answered c.in-Ok.fen c.requires.filled c.requires.short (subst (λ text. Spells text c.in-Ok.fen) says spells) sound)

pub returns-clause-reply : goal.returns-clause-reply
returns-clause-reply g c =
    let says : c.as_slice.result.now ≡ line_fen c.args.line.now = c.as_slice.ensures.value ∙ c.in_ok-text.ensures in
    reply_refused (g.V.FenView.shown c.args.self.now.view.now) c.args.number c.args.line.now c.in-Err.fault
    (λ output. output.text.items) (λ output. output.refused) c.refusal.result
    c.requires.filled c.requires.short
    (subst (λ text. IsFault text c.in-Err.fault) says c.in-Err.ensures.refused) c.refusal.ensures.text c.refusal.ensures.one
