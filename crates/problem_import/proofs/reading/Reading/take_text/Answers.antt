use Rattle.std.proofs.Common.{inr, sym, ◌∙◌}
use Rattle.problem_import.proofs.Sources.{comment_read, then_ok}
use Rattle.problem_import.proofs.reading.Reading.take_text.Goals as goal

pub returns-then-not-begins_with_position-clause-from : goal.returns-then-not-begins_with_position-clause-from
returns-then-not-begins_with_position-clause-from c = then_ok c.take_movetext.result _ _ (λ from letters lines own line at says known before.
    let (of, all) = from letters lines (comment_read letters lines own line c.args.line.now.text.now c.args.self.now.open (sym c.in_comment.ensures ∙ c.if-in_comment.true) at.0 says
    (sym c.is_tag_pair.ensures ∙ c.if-not-is_tag_pair.true) known.held) before in
    ((c.take_movetext.ensures.letters ∙ known.by, of), all)) c.take_movetext.ensures.from

pub returns-clause-from : goal.returns-clause-from
returns-clause-from c = then_ok c.take_problem_line.result _ _ (λ from letters lines own line at says known before.
    let kept = c.in_ok-end_movetext.ensures.from letters lines own (inr (line, at.0)) known before in
    from letters lines own line at says kept.0 kept.1) c.take_problem_line.ensures.from
