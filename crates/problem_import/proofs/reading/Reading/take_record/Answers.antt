use Rattle.std.proofs.Common.{inr}
use Rattle.problem_import.proofs.Sources.{open_ended}
use Rattle.problem_import.proofs.reading.Reading.take_record.Goals as goal

pub returns-clause-own : goal.returns-clause-own
returns-clause-own c = λ whole says is before.
    c.in_ok-push_finding.ensures.own whole (c.in_ok-finish.ensures.own whole before) (c.in_ok-found.ensures.own whole says is)

pub returns-clause-from : goal.returns-clause-from
returns-clause-from c = λ letters lines own whole at says is of before.
    c.in_ok-push_finding.ensures.from letters lines
    (c.in_ok-finish.ensures.from letters lines own (inr (whole, at)) (open_ended letters own c.args.self.now.open of) before)
    (c.in_ok-found.ensures.from letters lines whole (own, at) says is)
