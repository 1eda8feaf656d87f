use Rattle.chess_board.proofs.Spelling.{setup_once}
use Rattle.chess_board.proofs.laws.spells_one.Goals as goal

pub returns : goal.returns
returns c = setup_once
