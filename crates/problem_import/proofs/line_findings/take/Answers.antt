use Rattle.std.proofs.Common.{inr, refl, ◌∙◌}
use Rattle.problem_import.specs.declared.reading.Open.TheVariants as opens
use Rattle.problem_import.proofs.AsciiTexts.{record_says}
use Rattle.problem_import.proofs.Sources.{known_next, open_ended}
use Rattle.problem_import.proofs.line_findings.take.Goals as goal

pub returns-in_ok-take_record-in-Mendable-clause-own : goal.returns-in_ok-take_record-in-Mendable-clause-own
returns-in_ok-take_record-in-Mendable-clause-own c = λ before.
    let is = c.requires.mended c.in-Mendable.is in
    c.in_ok-take_record-in-Mendable.ensures.own c.args.line.now (record_says c.args.line.now c.trimmed.result.now is c.trimmed.ensures) is
    before

pub returns-in_ok-take_line-in-Other-clause-own : goal.returns-in_ok-take_line-in-Other-clause-own
returns-in_ok-take_line-in-Other-clause-own c = λ before. c.in_ok-take_line-in-Other.ensures.own (c.requires.other c.in-Other.is) before

pub returns-in_ok-finish-in-Clean-clause-from : goal.returns-in_ok-finish-in-Clean-clause-from
returns-in_ok-finish-in-Clean-clause-from c = λ letters lines own at short known before. (
  known_next letters lines c.finish.new.self opens.Nothing (c.finish.ensures.letters ∙ known.by) c.finish.ensures.next tt refl,
  c.in_ok-finish-in-Clean.ensures.from letters lines own (inr (c.args.line.now, at.0))
      (open_ended letters own c.args.reading.now.open known.held) before,
)

pub returns-in_ok-take_record-in-Mendable-clause-from : goal.returns-in_ok-take_record-in-Mendable-clause-from
returns-in_ok-take_record-in-Mendable-clause-from c = λ letters lines own at short known before.
    let is = c.requires.mended c.in-Mendable.is in (
      known_next letters lines c.take_record.new.self opens.Nothing (c.take_record.ensures.letters ∙ known.by)
          c.in_ok-take_record-in-Mendable.ensures.ended tt refl,
      c.in_ok-take_record-in-Mendable.ensures.from letters lines own c.args.line.now at.0
          (record_says c.args.line.now c.trimmed.result.now is c.trimmed.ensures) is known.held before,
    )

pub returns-in_ok-take_line-in-Other-clause-from : goal.returns-in_ok-take_line-in-Other-clause-from
returns-in_ok-take_line-in-Other-clause-from c = λ letters lines own at short known before.
    c.in_ok-take_line-in-Other.ensures.from letters lines own at short (c.requires.other c.in-Other.is) known before
