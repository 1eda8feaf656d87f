use Rattle.chess_board.proofs.AfterSound.{legal_reads}
use Rattle.chess_board.proofs.laws.legal_reads.Goals as goal

pub returns : goal.returns
returns c = legal_reads
