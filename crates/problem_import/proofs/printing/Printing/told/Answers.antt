use Rattle.std.proofs.Common.{subst, sym}
use Rattle.problem_import.specs.inside.Counted.{IsSaid}
use Rattle.problem_import.specs.Imports.{IsRecord}
use Rattle.problem_import.specs.inside.Findings.{Asks}
use Rattle.problem_import.specs.inside.FieldTexts.{GoesOn}
use Rattle.problem_import.specs.inside.KeptChanges.{has_change}
use Rattle.problem_import.proofs.FieldTexts.{fields_go_on}
use Rattle.problem_import.proofs.Positions.{telling_on}
use Rattle.problem_import.proofs.Sources.{count_moved, made_of}
use Rattle.problem_import.proofs.ToldChanges.{made_plain, made_told, made_unchanged, made_untold}
use Rattle.problem_import.proofs.printing.Printing.told.Goals as goal

pub returns-then-not-self-clause-made : goal.returns-then-not-self-clause-made
returns-then-not-self-clause-made c =
    made_plain c.args.self.now.keep c.args.self.now.bound c.args.found.line.now c.args.found.text.items c.args.moves c.args.found.changes c.if-not-self.true
    c.requires.own c.requires.number c.requires.asks

pub returns-then-not-self-clause-from : goal.returns-then-not-self-clause-from
returns-then-not-self-clause-from c = λ letters lines from.
    made_of letters c.args.self.now.bound lines c.args.found.text.items c.args.moves from c.requires.asks

pub returns-then-is_line-clause-made : goal.returns-then-is_line-clause-made
returns-then-is_line-clause-made c =
    made_unchanged c.args.self.now.keep c.args.self.now.bound c.args.found.line.now c.args.found.text.items
    (rw c.as_slice.ensures.value at c.is_line.ensures.line c.if-is_line.true)

pub returns-then-is_line-clause-from : goal.returns-then-is_line-clause-from
returns-then-is_line-clause-from c = λ letters lines from.
    made_of letters c.args.self.now.bound lines c.args.found.text.items c.args.moves from c.requires.asks

pub returns-in-Right-clause-record : goal.returns-in-Right-clause-record
returns-in-Right-clause-record c = (
  subst IsRecord c.as_slice-3.ensures.value (c.in_ok-says.ensures.record _ c.in-Right.is),
  subst (λ t. IsSaid t c.in-Right.says) c.as_slice-3.ensures.value (c.in_ok-says.ensures.said _ c.in-Right.is),
)

pub returns-in-Right-clause-made : goal.returns-in-Right-clause-made
returns-in-Right-clause-made c =
    made_told c.args.self.now.keep c.args.self.now.bound c.args.found.line.now c.args.found.text.items c.in_ok-told.told.items c.args.moves c.args.found.changes
    c.if-not-self.false c.requires.record c.requires.own c.requires.number
    (subst (λ t. Asks c.args.moves t) c.as_slice-3.ensures.value (c.in_ok-says.ensures.asks _ c.in-Right.is))
    (rw c.as_slice.ensures.value at c.is_line.ensures.changed c.if-is_line.false) (rw c.as_slice-2.ensures.value at c.in_ok-told.ensures)

pub returns-in-Right-clause-from : goal.returns-in-Right-clause-from
returns-in-Right-clause-from c = λ letters lines from.
    let told = rw c.as_slice-2.ensures.value at c.in_ok-told.ensures in
    let fields = fields_go_on c.args.found.text.items c.in_ok-told.told.items c.requires.record
    (subst (λ t. GoesOn c.args.found.text.items t) (sym told) (telling_on c.args.found.text.items (has_change c.args.found.changes))) in
    made_of letters c.args.self.now.bound lines c.in_ok-told.told.items c.args.moves
    (count_moved letters c.args.self.now.bound lines c.args.found.text.items c.in_ok-told.told.items c.args.moves fields from)
    (subst (λ t. Asks c.args.moves t) c.as_slice-3.ensures.value (c.in_ok-says.ensures.asks _ c.in-Right.is))

pub returns-in-Refused-clause-made : goal.returns-in-Refused-clause-made
returns-in-Refused-clause-made c =
    made_untold c.args.self.now.keep c.args.self.now.bound c.args.found.line.now c.args.found.text.items c.in_ok-told.told.items c.args.moves
    c.args.found.changes c.if-not-self.false c.requires.own c.requires.number c.requires.asks
    (rw c.as_slice.ensures.value at c.is_line.ensures.changed c.if-is_line.false)
    (rw c.as_slice-2.ensures.value at c.in_ok-told.ensures)
    (λ one. c.in_ok-says.ensures.none _ c.in-Refused.is (rw c.as_slice-3.ensures.value one))

pub returns-in-Refused-clause-from : goal.returns-in-Refused-clause-from
returns-in-Refused-clause-from c = λ letters lines from.
    made_of letters c.args.self.now.bound lines c.args.found.text.items c.args.moves from c.requires.asks
