use Rattle.std.proofs.Common.{sym, ◌∙◌, subst}
use Rattle.problem_import.specs.Sources.{remark}
use Rattle.problem_import.specs.inside.KnownSources.{IsOpenFrom}
use Rattle.problem_import.proofs.Sources.{open_waits}
use Rattle.problem_import.proofs.reading.Reading.take_problem_line.Goals as goal

pub returns-then-is_remark-clause-from : goal.returns-then-is_remark-clause-from
returns-then-is_remark-clause-from c = λ letters lines own line at says known before. (
  (
    known.by,
    subst (λ ls. IsOpenFrom letters ls c.args.self.now.open) (sym at.0)
        (open_waits letters own line c.args.self.now.open (remark c.args.line.now.text.now says.0 (sym c.is_remark.ensures ∙ c.if-is_remark.true)) known.held),
  ),
  before,
)

pub returns-clause-from : goal.returns-clause-from
returns-clause-from c = c.take_untagged.ensures.from
