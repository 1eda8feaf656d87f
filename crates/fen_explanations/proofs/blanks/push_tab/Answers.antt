use Rattle.fen_explanations.proofs.blanks.push_tab.Goals as goal

pub returns : goal.returns
returns c = rw (← c.has_letter.ensures) c.push_blank.ensures
