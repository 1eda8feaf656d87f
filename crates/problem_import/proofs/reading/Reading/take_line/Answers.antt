use Rattle.std.proofs.Common.{refl, sym, subst, ◌∙◌}
use Rattle.problem_import.specs.Letters.{IsTextOf}
use Rattle.problem_import.specs.Sources.{no_text}
use Rattle.problem_import.specs.inside.KnownSources.{IsKnown}
use Rattle.problem_import.proofs.AsciiTexts.{says_trimmed}
use Rattle.problem_import.specs.declared.reading.Open.TheVariants as opens
use Rattle.problem_import.proofs.Sources.{empty_is, filled_is, known_next, known_read, known_waits}
use Rattle.problem_import.proofs.reading.Reading.take_line.Goals as goal

pub returns-clause-own : goal.returns-clause-own
returns-clause-own c = λ other before.
    c.in_ok-take_text.ensures.own c.args.line.now
    (says_trimmed c.args.line.now c.as_slice.result.now c.trimmed-text.result.now (rw c.as_slice.ensures.value c.in_ok-text.ensures.ascii)
    c.trimmed-text.ensures) other before

pub returns-then-is_empty-clause-from : goal.returns-then-is_empty-clause-from
returns-then-is_empty-clause-from c = λ letters lines own at short other known before.
    let says : IsTextOf c.args.line.now c.trimmed-text.result.now =
    says_trimmed c.args.line.now c.as_slice.result.now c.trimmed-text.result.now (rw c.as_slice.ensures.value c.in_ok-text.ensures.ascii)
    c.trimmed-text.ensures in
    (subst (λ ls. IsKnown letters ls c.args.self.now) (sym at.0) (known_waits letters own c.args.line.now c.args.self.now (no_text (subst (IsTextOf c.args.line.now) (empty_is c.trimmed-text.result.now _ c.is_empty.ensures c.if-is_empty.true) says)) known), before)

pub returns-clause-from : goal.returns-clause-from
returns-clause-from c = λ letters lines own at short other known before.
    let text = c.trimmed-text.result.now in
    let says : IsTextOf c.args.line.now text =
    says_trimmed c.args.line.now c.as_slice.result.now text (rw c.as_slice.ensures.value c.in_ok-text.ensures.ascii) c.trimmed-text.ensures in
    let ((same, of), found) = c.in_ok-take_text.ensures.from letters lines own c.args.line.now at (says, other) known before in
    (known_read letters lines own c.args.number c.args.line.now text _ at says (filled_is text _ c.is_empty.ensures c.if-is_empty.false) short refl same of, found)

pub returns-then-has_foreign_placement-clause-from : goal.returns-then-has_foreign_placement-clause-from
returns-then-has_foreign_placement-clause-from c = λ letters lines own at short other known before. (
  known_next letters lines _ opens.Nothing (c.take_fault.ensures.letters ∙ known.by) c.in_ok-take_fault.ensures.ended tt refl,
  c.in_ok-take_fault.ensures.from letters lines own c.args.line.now at.0 known.held before,
)
