use Rattle.std.proofs.Common.{refl, ◌∙◌}
use Rattle.problem_import.proofs.Sources.{known_next, open_ended}
use Rattle.problem_import.proofs.reading.Reading.note_long.Goals as goal

pub returns-clause-from : goal.returns-clause-from
returns-clause-from c = λ letters lines own up known before. (
  known_next letters own _ _ (c.finish.ensures.letters ∙ known.by) c.finish.ensures.next tt refl,
  c.in_ok-finish.ensures.from letters lines own up (open_ended letters own c.args.self.now.open known.held) before,
)
