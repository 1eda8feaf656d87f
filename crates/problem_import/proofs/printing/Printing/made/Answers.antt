use Rattle.std.proofs.Common.{ap, refl, subst, ◌∙◌}
use Rattle.chess_notation.specs.RecordFields.{line_fields}
use Rattle.problem_import.specs.inside.KnownSources.{IsFoundBy, IsFoundFrom}
use Rattle.problem_import.proofs.OwnFindings.{own_moved}
use Rattle.problem_import.proofs.Sources.{found_moved, then_made}
use Rattle.problem_import.proofs.printing.Printing.made.Goals as goal

pub checked-requires-clause-own : goal.checked-requires-clause-own
checked-requires-clause-own c =
    let text = c.in_ok-text-in-Text.text.items in
    own_moved c.in-Text.changes.form c.with_moves.new.changes.form c.args.line.now c.in-Text.text.items c.as_slice.result.now text text
    c.in_ok-text-in-Text.ensures.form c.as_slice.ensures.value c.in_ok-text-in-Text.ensures.fields refl (rw c.in-Text.is at c.requires).0

pub bounded-requires-clause-own : goal.bounded-requires-clause-own
bounded-requires-clause-own c =
    let text = c.in_ok-text-in-Text.text.items in
    own_moved c.in-Text.changes.form c.with_moves.new.changes.form c.args.line.now c.in-Text.text.items c.as_slice.result.now text text
    c.in_ok-text-in-Text.ensures.form c.as_slice.ensures.value c.in_ok-text-in-Text.ensures.fields refl (rw c.in-Text.is at c.requires).0

pub returns-in-Some-clause-from : goal.returns-in-Some-clause-from
returns-in-Some-clause-from c = then_made c.checked.result _ _ (λ it next letters lines from.
    let given = c.args.self.now.bound in
    let text = c.in_ok-text-in-Text.text.items in
    next letters lines (c.in-Some.ensures.from letters given lines text
    (found_moved letters given lines c.in-Text.text.items text c.in-Text.number
    (c.in_ok-text-in-Text.ensures.fields ∙ ap line_fields c.as_slice.ensures.value) ((subst (IsFoundFrom letters lines) c.in-Text.is from) given))))
    c.checked.ensures.from

pub returns-in-None-clause-from : goal.returns-in-None-clause-from
returns-in-None-clause-from c = then_made c.bounded.result _ _ (λ it next letters lines from.
    let given = c.args.self.now.bound in
    let text = c.in_ok-text-in-Text.text.items in
    next letters lines (subst (IsFoundBy letters given lines text) c.in-None.ensures.unsaid
    (found_moved letters given lines c.in-Text.text.items text c.in-Text.number
    (c.in_ok-text-in-Text.ensures.fields ∙ ap line_fields c.as_slice.ensures.value) ((subst (IsFoundFrom letters lines) c.in-Text.is from) given))))
    c.bounded.ensures.from
