use Rattle.problem_import.proofs.OwnFindings.{one_found}
use Rattle.problem_import.proofs.Sources.{one_from}
use Rattle.problem_import.proofs.findings.push_finding.Goals as goal

pub returns-clause-own : goal.returns-clause-own
returns-clause-own c = λ line before one.
    one_found line c.args.findings.now.items c.push.new.self.items c.args.finding c.in_ok-push.ensures.items before one

pub returns-clause-from : goal.returns-clause-from
returns-clause-from c = λ letters lines before one.
    one_from letters lines c.args.findings.now.items c.push.new.self.items c.args.finding c.in_ok-push.ensures.items before one
