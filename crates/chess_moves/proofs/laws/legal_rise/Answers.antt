use Rattle.chess_moves.proofs.Rises.{legal_rise}
use Rattle.chess_moves.proofs.laws.legal_rise.Goals as goal

pub returns : goal.returns
returns c = legal_rise
