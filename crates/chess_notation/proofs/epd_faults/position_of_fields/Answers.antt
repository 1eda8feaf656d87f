use Rattle.std.proofs.Common.{refl, sym, ◌∙◌, subst}
use Rattle.chess_board.specs.Faults.{IsFirst, field_faults}
use Rattle.chess_board.specs.Fens.{Fields, IsAmiss}
use Rattle.chess_notation.proofs.ClearFields.{fields_clear}
use Rattle.chess_notation.proofs.FirstFaults.{fields_amiss, fourth_there}
use Rattle.chess_notation.proofs.epd_faults.position_of_fields.Goals as goal

pub returns-in-Ok-clause-clear : goal.returns-in-Ok-clause-clear
returns-in-Ok-clause-clear c =
    let spelt = (c.read_fields.ensures.exact c.in-Ok.position).0 c.in-Ok.is in
    fields_clear c.spells_one.ensures c.args.line.now c.in-Ok.position
    (fourth_there c.args.line.now _ _ _ _ c.four_words-words.ensures.fields (sym c.is_empty.ensures ∙ c.if-is_empty.false))
    (rw c.four_words-words.ensures.fields spelt.0) spelt.1

pub returns-in-Err-clause-refused : goal.returns-in-Err-clause-refused
returns-in-Err-clause-refused c = (
  refl,
  fields_amiss c.args.line.now c.in-Err.fault
      (fourth_there c.args.line.now _ _ _ _ c.four_words-words.ensures.fields (sym c.is_empty.ensures ∙ c.if-is_empty.false))
      (subst (λ (f : Fields). IsFirst (IsAmiss f) field_faults c.in-Err.fault) (sym c.four_words-words.ensures.fields) c.in-Err.ensures.refused),
)
