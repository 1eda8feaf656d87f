use Rattle.fen_explanations.proofs.men.push_no_king.Goals as goal

pub returns : goal.returns
returns c = rw (← c.side_name.ensures) c.push_if.ensures
