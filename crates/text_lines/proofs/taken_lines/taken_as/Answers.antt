use Rattle.std.proofs.Common.{◌≡◌, ◌≤◌, ◌<◌, ℕ, List, ap, length, sym, subst, take, ◌∙◌}
use Rattle.chess_notation.specs.Records.{max_line}
use Rattle.text_lines.specs.Lines.{without_cr}
use Rattle.text_lines.proofs.KeptLines.{kept_long, kept_short}
use Rattle.text_lines.proofs.LinesTaken.{cr_front}
use Rattle.text_lines.proofs.taken_lines.taken_as.Goals as goal

pub returns-then-length-gt-MAX_LINE : goal.returns-then-length-gt-MAX_LINE
returns-then-length-gt-MAX_LINE c line is =
    let kept : c.without_cr-length.result.now ≡ without_cr c.args.kept.bytes.items =
    c.without_cr-length.ensures ∙ ap without_cr c.as_slice.ensures.value in
    let long = subst (λ (l : List ℕ). max_line < length l) kept c.if-length-gt-MAX_LINE.true in
    (sym (c.is_blank.ensures line is) ∙ c.if-is_blank.false, kept_long c.args.kept line is long)

pub returns : goal.returns
returns c line is =
    let kept : c.without_cr-length.result.now ≡ without_cr c.args.kept.bytes.items =
    c.without_cr-length.ensures ∙ ap without_cr c.as_slice.ensures.value in
    let short = subst (λ (l : List ℕ). length l ≤ max_line) kept c.if-length-gt-MAX_LINE.false in
    let front : c.truncate.new.self.items ≡ without_cr c.args.kept.bytes.items =
    c.truncate.ensures.items ∙ ap (λ (l : List ℕ). take (length l) c.args.kept.bytes.items) kept ∙ cr_front c.args.kept.bytes.items in
    (sym (c.is_blank.ensures line is) ∙ c.if-is_blank.false, front ∙ ap without_cr (kept_short c.args.kept line is short))
