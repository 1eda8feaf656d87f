use Rattle.chess_moves.proofs.Once.{plays_once}
use Rattle.chess_moves.proofs.laws.plays_once.Goals as goal

pub returns : goal.returns
returns c = plays_once
