use Rattle.std.proofs.Common.{◌∙◌, sym}
use Rattle.stipulations.proofs.Squeezed.{behind_digits, behind_letters, digits_number, letters_number}
use Rattle.stipulations.proofs.patterns.cut_number.Goals as goal

pub returns-then-begins_with_digit-clause-number : goal.returns-then-begins_with_digit-clause-number
returns-then-begins_with_digit-clause-number c =
    digits_number c.args.text.now _ (sym c.begins_with_digit.ensures ∙ c.if-begins_with_digit.true) c.cut_digits.ensures.run

pub returns-then-begins_with_digit-clause-behind : goal.returns-then-begins_with_digit-clause-behind
returns-then-begins_with_digit-clause-behind c =
    behind_digits c.args.text.now _ (sym c.begins_with_digit.ensures ∙ c.if-begins_with_digit.true) c.cut_digits.ensures.behind

pub returns-else-begins_with_digit-clause-number : goal.returns-else-begins_with_digit-clause-number
returns-else-begins_with_digit-clause-number c =
    letters_number c.args.text.now _ (sym c.begins_with_digit.ensures ∙ c.if-begins_with_digit.false) c.cut_letters.ensures.run

pub returns-else-begins_with_digit-clause-behind : goal.returns-else-begins_with_digit-clause-behind
returns-else-begins_with_digit-clause-behind c =
    behind_letters c.args.text.now _ (sym c.begins_with_digit.ensures ∙ c.if-begins_with_digit.false) c.cut_letters.ensures.behind
