use Rattle.std.proofs.Common.{inr}
use Rattle.problem_import.proofs.Sources.{open_ended}
use Rattle.problem_import.proofs.reading.Reading.take_fault.Goals as goal

pub returns-clause-from : goal.returns-clause-from
returns-clause-from c = λ letters lines own whole at of before.
    c.in_ok-push_finding.ensures.from letters lines
    (c.in_ok-finish.ensures.from letters lines own (inr (whole, at)) (open_ended letters own c.args.self.now.open of) before) tt
