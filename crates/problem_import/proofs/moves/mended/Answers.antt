use Rattle.std.proofs.Common.{◌∙◌, sym}
use Rattle.problem_import.proofs.FieldTexts.{kept_before, some_of}
use Rattle.problem_import.proofs.moves.mended.Goals as goal

pub returns : goal.returns
returns c =
    let f = c.four_words-fields.result in
    kept_before c.args.text.now c.in_ok-text_before.field-0.items
    (record { placement = f.placement.now; side = f.side.now; castling = f.castling.now; target = f.target.now })
    c.four_words-fields.ensures.fields (some_of f.target.now (sym c.is_empty.ensures ∙ c.if-is_empty.false)) c.in_ok-text_before.ensures
