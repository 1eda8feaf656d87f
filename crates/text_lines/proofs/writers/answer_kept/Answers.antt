use Rattle.std.proofs.Common.{◌≡◌, ◌≤◌, ◌<◌, List, ℕ, [], length, sym, ap, ◌∙◌, subst, inl, inr}
use Rattle.std.proofs.KnownBytes.{Appends-nil}
use Rattle.chess_notation.specs.Records.{max_line}
use Rattle.text_lines.specs.Lines.{without_cr}
use Rattle.text_lines.proofs.KeptLines.{kept_filled, kept_long, kept_short}
use Rattle.text_lines.proofs.WrittenReplies.{breaks_as, follows_of, known_of, none_more, replied_as, said_of}
use Rattle.text_lines.proofs.writers.answer_kept.Goals as goal

pub returns-then-is_blank-clause-reply : goal.returns-then-is_blank-clause-reply
returns-then-is_blank-clause-reply g c = (
  [],
  (
    λ line is. g.met.W.LineWriter.skips c.args.lines.now.by.now c.args.number _ (sym (c.is_blank.ensures line is) ∙ c.if-is_blank.true),
    λ line is. none_more (g.W.LineWriter.marks c.args.lines.now.by.now c.args.number (without_cr line) []) _
        (g.met.W.LineWriter.unmarked c.args.lines.now.by.now c.args.number _ (sym (c.is_blank.ensures line is) ∙ c.if-is_blank.true)),
    λ line is before many known.
        let blank = sym (c.is_blank.ensures line is) ∙ c.if-is_blank.true in (
          g.met.W.LineWriter.skips_behind c.args.lines.now.by.now before c.args.number _ blank,
          g.met.W.LineWriter.passes c.args.lines.now.by.now _ before _ (inl blank) known,
        ),
  ),
  Appends-nil (g.O.Write.contents c.args.out.now),
)

pub returns-then-line-gt-MAX_LINE-clause-reply : goal.returns-then-line-gt-MAX_LINE-clause-reply
returns-then-line-gt-MAX_LINE-clause-reply g c =
    let kept : c.without_cr-line.result.now ≡ without_cr c.args.kept.now.bytes.items =
    c.without_cr-line.ensures ∙ ap without_cr c.as_slice.ensures.value in
    let long = subst (λ (l : List ℕ). max_line < length l) kept c.if-line-gt-MAX_LINE.true in
    replied_as _ _ _ _ c.refuse_long-refused.result
    (λ text n (may, marks, follows). (
      λ line is. may (without_cr line) (sym (c.is_blank.ensures line is) ∙ c.if-is_blank.false) (kept_long c.args.kept.now line is long),
      λ line is. none_more (g.W.LineWriter.marks c.args.lines.now.by.now c.args.number (without_cr line) text) _
          (marks (without_cr line) (sym (c.is_blank.ensures line is) ∙ c.if-is_blank.false) (kept_long c.args.kept.now line is long)),
      λ line is before many known. (
        follows (without_cr line) (sym (c.is_blank.ensures line is) ∙ c.if-is_blank.false) (kept_long c.args.kept.now line is long) before,
        g.met.W.LineWriter.passes c.args.lines.now.by.now _ before _ (inr (kept_long c.args.kept.now line is long)) known,
      ),
    ))
    c.refuse_long-refused.ensures.reply

pub returns-then-line-gt-MAX_LINE-clause-err : goal.returns-then-line-gt-MAX_LINE-clause-err
returns-then-line-gt-MAX_LINE-clause-err g c =
    let kept : c.without_cr-line.result.now ≡ without_cr c.args.kept.now.bytes.items =
    c.without_cr-line.ensures ∙ ap without_cr c.as_slice.ensures.value in
    let long = subst (λ (l : List ℕ). max_line < length l) kept c.if-line-gt-MAX_LINE.true in
    breaks_as _ _ _ _ c.refuse_long-refused.result
    (λ text n may line is.
    let (one, follows) =
    may (without_cr line) (sym (c.is_blank.ensures line is) ∙ c.if-is_blank.false) (kept_long c.args.kept.now line is long) in
    (one, λ before many known. follows before))
    c.refuse_long-refused.ensures.err

pub write_reply-refused-requires-clause-filled : goal.write_reply-refused-requires-clause-filled
write_reply-refused-requires-clause-filled g c =
    let kept : c.without_cr-line.result.now ≡ without_cr c.args.kept.now.bytes.items =
    c.without_cr-line.ensures ∙ ap without_cr c.as_slice.ensures.value in
    let short = subst (λ (l : List ℕ). length l ≤ max_line) kept c.if-line-gt-MAX_LINE.false in
    let (line, is) = c.requires.kept in
    rw (kept) (kept_filled c.args.kept.now line is short (sym (c.is_blank.ensures line is) ∙ c.if-is_blank.false))

pub returns-clause-reply : goal.returns-clause-reply
returns-clause-reply g c =
    let kept : c.without_cr-line.result.now ≡ without_cr c.args.kept.now.bytes.items =
    c.without_cr-line.ensures ∙ ap without_cr c.as_slice.ensures.value in
    let short = subst (λ (l : List ℕ). length l ≤ max_line) kept c.if-line-gt-MAX_LINE.false in
    replied_as _ _ _ _ c.write_reply-refused.result
    (λ text n (may, marks, knows). (
      λ line is. subst (λ l. g.W.LineWriter.replies c.args.lines.now.by.now c.args.number l text n)
          (kept ∙ ap without_cr (kept_short c.args.kept.now line is short)) may,
      λ line is. said_of (g.W.LineWriter.marks c.args.lines.now.by.now c.args.number) _ (without_cr line) text _
          (kept ∙ ap without_cr (kept_short c.args.kept.now line is short)) marks,
      λ line is. known_of (g.W.LineWriter.knows c.args.lines.now.by.now) (λ before. g.W.LineWriter.follows c.args.lines.now.by.now before c.args.number)
          _ (without_cr line) c.args.number _ _ text n (kept ∙ ap without_cr (kept_short c.args.kept.now line is short)) knows,
    )) c.write_reply-refused.ensures.reply

pub returns-clause-err : goal.returns-clause-err
returns-clause-err g c =
    let kept : c.without_cr-line.result.now ≡ without_cr c.args.kept.now.bytes.items =
    c.without_cr-line.ensures ∙ ap without_cr c.as_slice.ensures.value in
    let short = subst (λ (l : List ℕ). length l ≤ max_line) kept c.if-line-gt-MAX_LINE.false in
    breaks_as _ _ _ _ c.write_reply-refused.result
    (λ text n (may, follows) line is. (
      subst (λ l. g.W.LineWriter.replies c.args.lines.now.by.now c.args.number l text n)
          (kept ∙ ap without_cr (kept_short c.args.kept.now line is short)) may,
      follows_of (g.W.LineWriter.knows c.args.lines.now.by.now) (λ before. g.W.LineWriter.follows c.args.lines.now.by.now before c.args.number)
          _ (without_cr line) c.args.number _ text n (kept ∙ ap without_cr (kept_short c.args.kept.now line is short)) follows,
    )) c.write_reply-refused.ensures.err
