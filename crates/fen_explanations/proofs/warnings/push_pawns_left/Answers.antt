use Rattle.fen_explanations.specs.Warnings.{pawns_left_text}
use Rattle.fen_explanations.proofs.warnings.push_pawns_left.Goals as goal

pub returns : goal.returns
unfolding pawns_left_text
returns c = rw (← c.plural.ensures, ← c.format.ensures.text, ← c.as_bytes-number.ensures.value) c.push_sentence.ensures
