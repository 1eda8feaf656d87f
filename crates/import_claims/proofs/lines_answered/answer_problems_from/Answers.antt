use Rattle.std.proofs.Common.{◌≤◌}
use Rattle.mail_lines.specs.Mails.{mailed}
use Rattle.import_claims.proofs.SourcedRows.{broken_sourced, cut_sourced, ended_sourced}
use Rattle.import_claims.proofs.lines_answered.answer_problems_from.Goals as goal

pub returns-in-Ok-clause-ok : goal.returns-in-Ok-clause-ok
returns-in-Ok-clause-ok g c =
    let some : 1 ≤ c.args.start.now.from = c.requires.from in
    ended_sourced (mailed c.args.lines.now.printing.letters.placements) c.args.lines.now.printing.letters.moves c.args.lines.now.printing.letters.placements c.args.lines.now.printing.keep c.args.lines.now.printing.bound (g.H.ProblemHandler.records c.args.lines.now.handler.now)
    (g.H.ProblemHandler.rows c.args.lines.now.handler.now) c.args.start.now.from some c.put_last.result c.in-Ok.count
    c.answer_mails.new.memory.reading (g.I.Input.left c.args.input) (g.O.Write.contents c.args.out.now)
    (g.O.Write.contents c.answer_mails.new.out) (g.O.Write.contents c.put_last.new.out) (c.in-Ok.ensures.followed c.begin.ensures.begun)
    c.put_last.ensures.ok

pub returns-in-Ok-clause-err : goal.returns-in-Ok-clause-err
returns-in-Ok-clause-err g c =
    let some : 1 ≤ c.args.start.now.from = c.requires.from in
    cut_sourced (mailed c.args.lines.now.printing.letters.placements) c.args.lines.now.printing.letters.moves c.args.lines.now.printing.letters.placements c.args.lines.now.printing.keep c.args.lines.now.printing.bound (g.H.ProblemHandler.records c.args.lines.now.handler.now)
    (g.H.ProblemHandler.rows c.args.lines.now.handler.now) c.args.start.now.from some c.put_last.result c.in-Ok.count
    c.answer_mails.new.memory.reading (g.I.Input.left c.args.input) (g.O.Write.contents c.args.out.now)
    (g.O.Write.contents c.answer_mails.new.out) (g.O.Write.contents c.put_last.new.out) (c.in-Ok.ensures.followed c.begin.ensures.begun)
    c.put_last.ensures.err

pub returns-in-Err-clause-err : goal.returns-in-Err-clause-err
returns-in-Err-clause-err g c =
    let some : 1 ≤ c.args.start.now.from = c.requires.from in
    broken_sourced (mailed c.args.lines.now.printing.letters.placements) c.args.lines.now.printing.letters.moves c.args.lines.now.printing.letters.placements c.args.lines.now.printing.keep c.args.lines.now.printing.bound (g.H.ProblemHandler.records c.args.lines.now.handler.now)
    (g.H.ProblemHandler.rows c.args.lines.now.handler.now) c.args.start.now.from some c.in-Err.stop (g.I.Input.left c.args.input)
    (g.O.Write.contents c.args.out.now) (g.O.Write.contents c.answer_mails.new.out) (c.in-Err.ensures.broken c.begin.ensures.begun)
