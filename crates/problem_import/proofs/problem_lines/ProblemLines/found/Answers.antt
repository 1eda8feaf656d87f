use Rattle.std.proofs.Common.{arith}
use Rattle.problem_import.proofs.AnsweredProblems.{found_all, found_more, none_found}
use Rattle.problem_import.proofs.AnsweredSources.{no_answer}
use Rattle.problem_import.proofs.OwnFindings.{found_at}
use Rattle.problem_import.proofs.Sources.{from_at}
use Rattle.problem_import.proofs.problem_lines.ProblemLines.found.Goals as goal

pub loop-finding-init : goal.loop-finding-init
loop-finding-init g c = record {
  found = none_found c.args.self.now.printing.keep c.args.self.now.printing.bound (g.H.ProblemHandler.records c.args.self.now.handler.now)
      (g.H.ProblemHandler.rows c.args.self.now.handler.now)
      c.args.line.now c.args.counts c.new-answers.result c.new-answers.ensures.text c.new-answers.ensures.any c.new-answers.ensures.counts;
  from = λ letters lines from. no_answer c.args.self.now.printing.keep c.args.self.now.printing.bound (g.H.ProblemHandler.records c.args.self.now.handler.now)
      (g.H.ProblemHandler.rows c.args.self.now.handler.now) letters lines
      c.new-answers.result.text.items c.new-answers.ensures.text;
}

pub push-requires : goal.push-requires
push-requires g c =
    found_at c.args.line.now c.args.findings.now c.loop-finding.finding-index c.finding-item.result (omega arith) c.finding-item.is c.requires

pub loop-finding-preserved : goal.loop-finding-preserved
loop-finding-preserved g c = record {
  found =
      let (lines, some, told) = c.loop-finding.invariant.found in
      found_more c.args.self.now.printing.keep c.args.self.now.printing.bound (g.H.ProblemHandler.records c.args.self.now.handler.now)
      (g.H.ProblemHandler.rows c.args.self.now.handler.now)
      c.args.line.now c.args.counts c.push.new.answers _ (c.in_ok-push.ensures.found lines c.args.counts told);
  from = λ letters lines from. c.in_ok-push.ensures.from letters lines
      (from_at letters lines c.args.findings.now c.loop-finding.finding-index c.finding-item.result (omega arith) c.finding-item.is from)
      (c.loop-finding.invariant.from letters lines from);
}

pub returns-clause-found : goal.returns-clause-found
returns-clause-found g c =
    found_all c.args.self.now.printing.keep c.args.self.now.printing.bound (g.H.ProblemHandler.records c.args.self.now.handler.now)
    (g.H.ProblemHandler.rows c.args.self.now.handler.now)
    c.args.line.now c.args.counts c.loop-finding.answers c.loop-finding.finding-index _ (omega arith) c.loop-finding.invariant.found

pub returns-clause-from : goal.returns-clause-from
returns-clause-from g c = c.loop-finding.invariant.from
