use Rattle.std.proofs.Common.{sym, ◌∙◌, subst}
use Rattle.problem_import.specs.inside.KnownSources.{IsTagged}
use Rattle.problem_import.proofs.Sources.{open_ended, tagged_new, tagged_on}
use Rattle.problem_import.proofs.reading.Reading.open_game.Goals as goal

pub returns-then-goes_on-clause-from : goal.returns-then-goes_on-clause-from
returns-then-goes_on-clause-from c = λ letters lines own up count known before. (
  tagged_on letters own c.args.self.now.open c.args.self.now.last c.args.line.now.number (sym c.goes_on.ensures ∙ c.if-goes_on.true) count known.held
      known.unbroken,
  before,
)

pub returns-clause-from : goal.returns-clause-from
returns-clause-from c = λ letters lines own up count known before. (
  subst (IsTagged letters own) (sym c.finish.ensures.next)
      (tagged_new letters own c.new-game.result c.new-game.ensures.fen c.new-game.ensures.asked c.new-game.ensures.stipulated
      c.new-game.ensures.comment),
  c.in_ok-finish.ensures.from letters lines own up (open_ended letters own c.args.self.now.open known.held) before,
)
