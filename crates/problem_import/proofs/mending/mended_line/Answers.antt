use Rattle.std.proofs.Common.{◌∙◌, sym}
use Rattle.problem_import.proofs.FieldTexts.{kept_before, some_of}
use Rattle.problem_import.proofs.SaidNumbers.{said_of}
use Rattle.problem_import.proofs.mending.mended_line.Goals as goal

pub returns-clause-fields : goal.returns-clause-fields
returns-clause-fields c =
    let f = c.four_words-fields.result in
    kept_before c.args.line.now c.in_ok-mended.mended.items
    (record { placement = f.placement.now; side = f.side.now; castling = f.castling.now; target = f.target.now })
    c.four_words-fields.ensures.fields (some_of f.target.now (sym c.is_empty.ensures ∙ c.if-is_empty.false)) c.in_ok-mended.ensures

pub returns-clause-said : goal.returns-clause-said
returns-clause-said c =
    said_of c.args.line.now c.four_words-fields.result.behind.now c.behind_counters.result.now c.said_in-said.result c.said_in-said.ensures
    c.behind_counters.ensures c.four_words-fields.ensures.behind

pub returns-then-is_empty-clause-said : goal.returns-then-is_empty-clause-said
returns-then-is_empty-clause-said c =
    said_of c.args.line.now c.four_words-fields.result.behind.now c.behind_counters.result.now c.said_in-said.result c.said_in-said.ensures
    c.behind_counters.ensures c.four_words-fields.ensures.behind
