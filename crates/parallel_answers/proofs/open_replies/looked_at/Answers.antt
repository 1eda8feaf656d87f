use Rattle.std.proofs.Common.{subst, sym}
use Rattle.text_lines.specs.Lines.{without_cr}
use Rattle.text_lines.specs.TakenLines.{IsTakenAs}
use Rattle.parallel_answers.proofs.open_replies.looked_at.Goals as goal

pub returns-in-Blank-clause-open : goal.returns-in-Blank-clause-open
returns-in-Blank-clause-open g c whole is =
    let blank = subst (λ line. IsTakenAs line whole) c.in-Blank.is is in (
      subst (λ n. g.T.LineTask.replies c.args.task.now c.args.number (without_cr whole) c.nothing.result.text.items n) (sym c.nothing.ensures.none)
          (subst (λ text. g.T.LineTask.replies c.args.task.now c.args.number (without_cr whole) text 0) (sym c.nothing.ensures.text)
          (g.T.LineTask.skips c.args.task.now c.args.number (without_cr whole) blank)),
      ∣ subst (g.T.LineTask.marks c.args.task.now (without_cr whole)) (sym c.nothing.ensures.mark)
          (g.T.LineTask.unmarked c.args.task.now (without_cr whole) blank) ∣₁,
    )
