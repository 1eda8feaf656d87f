use Rattle.std.proofs.Common.{refl, ◌∙◌}
use Rattle.problem_import.specs.declared.reading.Open.TheVariants as opens
use Rattle.problem_import.proofs.Sources.{known_next, open_ended}
use Rattle.problem_import.proofs.reading.Reading.end_movetext.Goals as goal

pub returns-clause-from : goal.returns-clause-from
returns-clause-from c = λ letters lines own up known before. (
  known_next letters own c.finish.new.self opens.Nothing (c.finish.ensures.letters ∙ known.by) c.finish.ensures.next tt refl,
  c.in_ok-finish.ensures.from letters lines own up (open_ended letters own c.args.self.now.open known.held) before,
)
