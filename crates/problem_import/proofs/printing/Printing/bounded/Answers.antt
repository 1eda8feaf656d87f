use Rattle.std.proofs.Common.{Some, ap, refl}
use Rattle.problem_import.specs.declared.findings.Number.TheVariants.{Unsaid}
use Rattle.problem_import.proofs.FieldTexts.{fields_go_on}
use Rattle.problem_import.proofs.KnownNumbers.{number_given}
use Rattle.problem_import.proofs.Positions.{own_bounded}
use Rattle.problem_import.proofs.Sources.{count_given, found_moved, then_made}
use Rattle.problem_import.proofs.printing.Printing.bounded.Goals as goal

pub checked-requires-clause-own : goal.checked-requires-clause-own
checked-requires-clause-own c =
    own_bounded c.args.found.changes.form c.of_bound.result.form c.args.found.line.now c.args.found.text.items c.push_bound_operation.new.text.items
    c.push_bound_operation.new.text.items c.of_bound.ensures (rw c.as_slice.ensures.value at (rw c.in-Ok-Some.is-0 at c.in_ok-says_asked.ensures.record))
    c.in_ok-push_bound_operation-in-Ok-Some.ensures refl c.requires.own

pub checked-requires-clause-number : goal.checked-requires-clause-number
checked-requires-clause-number c =
    number_given c.args.found.changes.form c.of_bound.result.form c.args.self.now.bound c.args.found.line.now c.in-Ok-Some.bound
    (Some c.get-in-Ok-Some.result) c.of_bound.ensures c.in-Ok-Some.is-1 (ap (λ n. Some n) c.get-in-Ok-Some.ensures.moves) c.requires.number

pub returns-in_ok-push_bound_operation-in-Ok-Some-clause-from : goal.returns-in_ok-push_bound_operation-in-Ok-Some-clause-from
returns-in_ok-push_bound_operation-in-Ok-Some-clause-from c = then_made c.checked.result _ _ (λ it next letters lines from.
    let given = c.args.self.now.bound in
    let text = c.push_bound_operation.new.text in
    next letters lines (count_given letters given lines text.items (Some c.get-in-Ok-Some.result) c.in-Ok-Some.bound c.in-Ok-Some.is-1
    (ap (λ n. Some n) c.get-in-Ok-Some.ensures.moves)
    (found_moved letters given lines c.args.found.text.items text.items Unsaid
    (fields_go_on c.args.found.text.items text.items (rw c.as_slice.ensures.value at (rw c.in-Ok-Some.is-0 at c.in_ok-says_asked.ensures.record))
    c.in_ok-push_bound_operation-in-Ok-Some.ensures) from))) c.checked.ensures.from
