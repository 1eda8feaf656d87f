use Rattle.fen_explanations.proofs.blanks.push_other_blank.Goals as goal

pub returns : goal.returns
returns c = rw (← c.has_other_blank.ensures) c.push_blank.ensures
