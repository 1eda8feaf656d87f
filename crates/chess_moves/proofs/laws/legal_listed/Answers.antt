use Rattle.chess_moves.proofs.Listed.{legal_listed}
use Rattle.chess_moves.proofs.laws.legal_listed.Goals as goal

pub returns : goal.returns
returns c = legal_listed
