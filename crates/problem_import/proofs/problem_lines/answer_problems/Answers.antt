use Rattle.mail_lines.specs.Mails.{mailed}
use Rattle.problem_import.proofs.AnsweredSources.{broken_off, cut_if, whole_if}
use Rattle.problem_import.proofs.problem_lines.answer_problems.Goals as goal

pub returns-in-Ok-clause-ok : goal.returns-in-Ok-clause-ok
returns-in-Ok-clause-ok g c =
    let letters = c.args.lines.now.printing.letters in
    whole_if c.args.lines.now.printing.keep c.args.lines.now.printing.bound (g.H.ProblemHandler.records c.args.lines.now.handler.now)
    (g.H.ProblemHandler.rows c.args.lines.now.handler.now) (mailed letters.placements) letters.moves letters.placements c.put_last.result c.in-Ok.count c.answer_mails_input.new.memory.reading
    (g.I.Input.left c.args.input) (g.O.Write.contents c.args.out.now) (g.O.Write.contents c.answer_mails_input.new.out)
    (g.O.Write.contents c.put_last.new.out) (c.in-Ok.ensures.followed c.begin.ensures.begun) c.put_last.ensures.ok

pub returns-in-Ok-clause-err : goal.returns-in-Ok-clause-err
returns-in-Ok-clause-err g c =
    let letters = c.args.lines.now.printing.letters in
    cut_if c.args.lines.now.printing.keep c.args.lines.now.printing.bound (g.H.ProblemHandler.records c.args.lines.now.handler.now)
    (g.H.ProblemHandler.rows c.args.lines.now.handler.now) (mailed letters.placements) letters.moves letters.placements c.put_last.result c.in-Ok.count c.answer_mails_input.new.memory.reading
    (g.I.Input.left c.args.input) (g.O.Write.contents c.args.out.now) (g.O.Write.contents c.answer_mails_input.new.out)
    (g.O.Write.contents c.put_last.new.out) (c.in-Ok.ensures.followed c.begin.ensures.begun) c.put_last.ensures.err

pub returns-in-Err-clause-err : goal.returns-in-Err-clause-err
returns-in-Err-clause-err g c =
    let letters = c.args.lines.now.printing.letters in
    broken_off c.args.lines.now.printing.keep c.args.lines.now.printing.bound (g.H.ProblemHandler.records c.args.lines.now.handler.now)
    (g.H.ProblemHandler.rows c.args.lines.now.handler.now) (mailed letters.placements) letters.moves letters.placements c.in-Err.stop (g.I.Input.left c.args.input)
    (g.O.Write.contents c.args.out.now) (g.O.Write.contents c.answer_mails_input.new.out) (c.in-Err.ensures.broken c.begin.ensures.begun)
