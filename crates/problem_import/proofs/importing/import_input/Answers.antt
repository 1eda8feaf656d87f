use Rattle.problem_import.proofs.PrintedProblems.{err_printed, ok_printed}
use Rattle.problem_import.proofs.importing.import_input.Goals as goal

pub returns-clause-ok : goal.returns-clause-ok
returns-clause-ok g c = ok_printed c.args.printing.now.keep c.args.printing.now.bound c.args.printing.now.letters c.answer_problems-end.result
    (g.I.Input.left c.args.input) (g.O.Write.contents c.args.out.now) (g.O.Write.contents c.answer_problems-end.new.out)
    (rw (c.new-lines.ensures.letters, c.new-lines.ensures.keep, c.new-lines.ensures.bound) at c.answer_problems-end.ensures.ok)

pub returns-clause-err : goal.returns-clause-err
returns-clause-err g c = err_printed c.args.printing.now.keep c.args.printing.now.bound c.args.printing.now.letters c.answer_problems-end.result
    (g.I.Input.left c.args.input) (g.O.Write.contents c.args.out.now) (g.O.Write.contents c.answer_problems-end.new.out)
    (rw (c.new-lines.ensures.letters, c.new-lines.ensures.keep, c.new-lines.ensures.bound) at c.answer_problems-end.ensures.err)
