use Rattle.problem_import.proofs.AnsweredProblems.{found_record, found_refusal}
use Rattle.problem_import.proofs.Sources.{then_ok}
use Rattle.problem_import.proofs.problem_lines.ProblemLines.push.Goals as goal

pub push_record-requires-clause-record : goal.push_record-requires-clause-record
push_record-requires-clause-record g c = rw c.as_slice-text.ensures.value ((rw c.in-Ok.is at c.in_ok-made.ensures.record).0)

pub push_record-requires-clause-said : goal.push_record-requires-clause-said
push_record-requires-clause-said g c = rw c.as_slice-text.ensures.value ((rw c.in-Ok.is at c.in_ok-made.ensures.record).1)

pub returns-in-Ok-clause-found : goal.returns-in-Ok-clause-found
returns-in-Ok-clause-found g c =
    found_record c.args.self.now.printing.keep c.args.self.now.printing.bound (g.H.ProblemHandler.records c.args.self.now.handler.now)
    (g.H.ProblemHandler.rows c.args.self.now.handler.now)
    c.push_record.result c.args.answers.now c.push_record.new.answers c.args.line.now c.as_slice-text.result.now
    (rw c.as_slice-text.ensures.value (rw c.in-Ok.is at c.in_ok-made.ensures.made)) c.push_record.ensures.answered

pub returns-in-Err-clause-found : goal.returns-in-Err-clause-found
returns-in-Err-clause-found g c =
    found_refusal c.args.self.now.printing.keep c.args.self.now.printing.bound (g.H.ProblemHandler.records c.args.self.now.handler.now)
    (g.H.ProblemHandler.rows c.args.self.now.handler.now)
    c.push_refusal.result c.args.answers.now c.push_refusal.new.answers c.args.line.now c.args.finding.now.number c.in-Err.fault
    c.push_refusal.ensures.answered

pub returns-in-Ok-clause-from : goal.returns-in-Ok-clause-from
returns-in-Ok-clause-from g c = then_ok c.push_record.result _ _ (λ pushed letters lines from.
    pushed letters lines (rw c.as_slice-text.ensures.value ((rw c.in-Ok.is at c.in_ok-made.ensures.from) letters lines from)))
    c.push_record.ensures.from

pub returns-in-Err-clause-from : goal.returns-in-Err-clause-from
returns-in-Err-clause-from g c = then_ok c.push_refusal.result _ _ (λ pushed letters lines from. pushed letters lines) c.push_refusal.ensures.from
