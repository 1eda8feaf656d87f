use Rattle.fen_explanations.specs.Fields.{no_pawn_told}
use Rattle.fen_explanations.proofs.fields.push_no_pawn.Goals as goal

pub returns : goal.returns
unfolding no_pawn_told
returns c = rw (
  ← c.has_man.ensures,
  ← c.colour_name.ensures,
  ← c.file_letter.ensures.letter,
  ← c.rank_digit.ensures.digit,
  ← c.file_letter-2.ensures.letter,
  ← c.rank_digit-2.ensures.digit,
) c.push_if.ensures
