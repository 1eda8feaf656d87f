use Rattle.mate_tree.proofs.AddedLines.{text_asked, text_none}
use Rattle.mate_tree.proofs.threats.push_idea.Goals as goal

pub returns-in-Some : goal.returns-in-Some
returns-in-Some g c =
    rw (← c.passed.ensures, c.in-Some.is, ← c.soonest-outcome.ensures.truth)
    (text_asked c.args.writer.now c.soonest-outcome.new.memo c.soonest-outcome.ensures.room c.push_threat.ensures)

pub returns-in-None : goal.returns-in-None
returns-in-None g c = rw (← c.passed.ensures, c.in-None.is) (text_none c.args.writer.now)
