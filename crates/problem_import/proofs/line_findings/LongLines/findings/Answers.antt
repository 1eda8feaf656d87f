use Rattle.problem_import.proofs.OwnFindings.{none_found}
use Rattle.problem_import.proofs.Sources.{none_from}
use Rattle.std.proofs.Common.{inr}
use Rattle.problem_import.proofs.line_findings.LongLines.findings.Goals as goal

pub returns-clause-own : goal.returns-clause-own
returns-clause-own c =
    c.in_ok-take.ensures.own
    (c.in_ok-note_long.ensures.own c.args.line.now (none_found c.args.line.now c.new-findings.result.items c.new-findings.ensures.items))

pub returns-clause-from : goal.returns-clause-from
returns-clause-from c = λ letters lines own at short known.
    let noted = c.in_ok-note_long.ensures.from letters lines own (inr (c.args.line.now, at.0)) known
    (none_from letters lines c.new-findings.result.items c.new-findings.ensures.items) in
    c.in_ok-take.ensures.from letters lines own at short noted.0 noted.1
