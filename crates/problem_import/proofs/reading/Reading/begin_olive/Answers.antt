use Rattle.std.proofs.Common.{[], ◌∙◌}
use Rattle.problem_import.proofs.Sources.{open_ended, open_next}
use Rattle.problem_import.proofs.reading.Reading.begin_olive.Goals as goal

pub returns-clause-from : goal.returns-clause-from
returns-clause-from c = λ letters lines own up held are before. (
  (c.finish.ensures.letters ∙ held.0, open_next letters lines _ _ c.finish.ensures.next ([], are, c.new-problem.ensures)),
  c.in_ok-finish.ensures.from letters lines own up (open_ended letters own c.args.self.now.open held.1) before,
)
