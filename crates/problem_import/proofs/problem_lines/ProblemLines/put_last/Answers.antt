use Rattle.std.proofs.Common.{subst}
use Rattle.byte_streams.specs.Stops.{AppendsPart}
use Rattle.problem_import.proofs.AnsweredProblems.{by_part}
use Rattle.problem_import.proofs.AnsweredSources.{none_cut}
use Rattle.problem_import.proofs.problem_lines.ProblemLines.put_last.Goals as goal

pub returns-in_default-clause-err : goal.returns-in_default-clause-err
returns-in_default-clause-err g c = none_cut c.args.self.now.printing.keep c.args.self.now.printing.bound (g.H.ProblemHandler.records c.args.self.now.handler.now)
    (g.H.ProblemHandler.rows c.args.self.now.handler.now) c.args.self.now.printing.letters.placements c.args.memory.now.reading (g.O.Write.contents c.args.out.now)

pub returns-in_default-checked_add-clause-err : goal.returns-in_default-checked_add-clause-err
returns-in_default-checked_add-clause-err g c = none_cut c.args.self.now.printing.keep c.args.self.now.printing.bound (g.H.ProblemHandler.records c.args.self.now.handler.now)
    (g.H.ProblemHandler.rows c.args.self.now.handler.now) c.args.self.now.printing.letters.placements c.args.memory.now.reading (g.O.Write.contents c.args.out.now)

pub returns-clause-err : goal.returns-clause-err
returns-clause-err g c = (
  c.in-Ok.last.text.items,
  c.in-Ok.last.any,
  c.in-Ok.ensures,
  by_part c.args.self.now.printing.keep c.args.self.now.printing.bound (g.H.ProblemHandler.records c.args.self.now.handler.now)
      (g.H.ProblemHandler.rows c.args.self.now.handler.now) c.in-Err.stop c.in-Ok.last.text.items (g.O.Write.contents c.args.out.now) (g.O.Write.contents c.put.new.out) c.in-Err.ensures.err
      (subst (AppendsPart (g.O.Write.contents c.args.out.now) (g.O.Write.contents c.put.new.out)) c.as_slice.ensures.value c.in-Err.ensures.part),
)
