use Rattle.std.proofs.Common.{◌∙◌, sym}
use Rattle.problem_import.proofs.AsciiTexts.{behind_front, front_ascii, printable_ascii}
use Rattle.problem_import.proofs.letters.ascii_text.Goals as goal

pub returns-then-is_plain-clause-ascii : goal.returns-then-is_plain-clause-ascii
returns-then-is_plain-clause-ascii c =
    printable_ascii c.args.line.now c.in_ok-text.text.items (sym c.is_plain.ensures ∙ c.if-is_plain.true) c.in_ok-text.ensures.items

pub returns-then-is_empty-clause-ascii : goal.returns-then-is_empty-clause-ascii
returns-then-is_empty-clause-ascii c =
    front_ascii c.args.line.now c.new-text.result.items c.push_front.new.text.items c.new-text.ensures.items c.in_ok-back.ensures.front

pub returns-clause-ascii : goal.returns-clause-ascii
returns-clause-ascii c =
    behind_front c.args.line.now c.new-text.result.items c.push_front.new.text.items c.as_slice-2.result.now c.extend_from_slice.new.self.items
    c.in_ok-back.back.now c.new-text.ensures.items c.in_ok-back.ensures.front (c.in_ok-extend_from_slice.ensures.items) c.in_ok-back.ensures.back
    (sym c.is_empty.ensures ∙ c.if-is_empty.false)
