use Rattle.chess_moves.proofs.Lines.{plays_listed}
use Rattle.chess_moves.proofs.laws.plays_listed.Goals as goal

pub returns : goal.returns
returns c = plays_listed
