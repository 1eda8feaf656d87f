use Rattle.std.proofs.Common.{length}
use Rattle.problem_import.specs.Imports.{unchanged}
use Rattle.problem_import.proofs.AnsweredProblems.{clean_reply, other_reply}
use Rattle.problem_import.proofs.Sources.{made_line}
use Rattle.problem_import.proofs.problem_lines.ProblemLines.reply.Goals as goal

pub found-requires : goal.found-requires
found-requires g c = rw c.as_slice.ensures.value c.in_ok-findings.ensures.own

pub returns-in_default-clause-reply : goal.returns-in_default-clause-reply
returns-in_default-clause-reply g c =
    other_reply c.args.self.now.printing.keep c.args.self.now.printing.bound (g.H.ProblemHandler.records c.args.self.now.handler.now)
    (g.H.ProblemHandler.rows c.args.self.now.handler.now) c.args.self.now.printing.letters.moves
    c.in_ok-read.read.kind c.args.number c.args.line.now c.get-counts.result c.in_ok-answers.answers
    (length c.as_slice.result.now) c.requires c.in_ok-read.ensures.other c.in_ok-read.ensures.mendable c.in_default.not-Clean
    (λ is. rw c.as_slice.ensures.value (c.in_ok-findings.ensures.found is)) c.in_ok-answers.ensures.found

pub returns-clause-reply : goal.returns-clause-reply
returns-clause-reply g c =
    clean_reply c.args.self.now.printing.keep c.args.self.now.printing.bound (g.H.ProblemHandler.records c.args.self.now.handler.now)
    (g.H.ProblemHandler.rows c.args.self.now.handler.now) c.args.self.now.printing.letters.moves
    c.args.number c.args.line.now c.get-counts.result c.in_ok-answers.answers c.push_record.new.answers (length c.as_slice.result.now) c.requires
    c.in_ok-answers.ensures.found (λ lines. c.in_ok-push_record.ensures.answered c.args.line.now lines c.get-counts.result unchanged)
    c.in_ok-push_record.ensures.ends

pub returns-in_default-clause-from : goal.returns-in_default-clause-from
returns-in_default-clause-from g c = λ letters lines own at short known.
    let (now, found) = c.in_ok-findings.ensures.from letters lines own at short known in
    (now, c.in_ok-answers.ensures.from letters lines (rw c.as_slice.ensures.value found))

pub returns-clause-from : goal.returns-clause-from
returns-clause-from g c = λ letters lines own at short known.
    let (now, found) = c.in_ok-findings.ensures.from letters lines own at short known in (
      now,
      c.in_ok-push_record.ensures.from letters lines (made_line letters c.args.self.now.printing.bound lines c.args.line.now (own, at.0))
          (c.in_ok-answers.ensures.from letters lines (rw c.as_slice.ensures.value found)),
    )
