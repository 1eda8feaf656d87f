use Rattle.std.proofs.Common.{◌∙◌, ◌++◌, ap, append_assoc, codes}
use Rattle.problem_sheets.specs.Problems.{caption_text, details_text}
use Rattle.problem_sheets.proofs.problems.push_caption.Goals as goal

pub returns : goal.returns
unfolding caption_text
returns c =
    let old = c.args.text.now.items in
    let details = details_text c.args.caption.now.number c.args.caption.now.moves c.args.caption.now.record.now in
    c.in_ok-extend_from_slice-2.ensures.items
    ∙ ap (λ t. t ++ codes "</figcaption>")
    (c.in_ok-push_details.ensures ∙ ap (λ t. t ++ details) c.in_ok-extend_from_slice.ensures.items ∙ append_assoc old (codes "<figcaption>") details)
    ∙ append_assoc old (codes "<figcaption>" ++ details) (codes "</figcaption>")
