use Rattle.std.proofs.Common.{◌∙◌, sym}
use Rattle.problem_import.proofs.FieldTexts.{fourth_some, some_of}
use Rattle.problem_import.proofs.fields.has_fields.Goals as goal

pub returns : goal.returns
returns c = λ _.
    let f = c.four_words-fields.result in
    fourth_some c.args.text.now
    (record { placement = f.placement.now; side = f.side.now; castling = f.castling.now; target = f.target.now })
    c.four_words-fields.ensures.fields (some_of f.target.now (sym c.is_empty.ensures ∙ c.if-is_empty.false))
