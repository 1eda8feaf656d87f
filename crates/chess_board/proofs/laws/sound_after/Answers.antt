use Rattle.chess_board.proofs.AfterSound.{sound_after}
use Rattle.chess_board.proofs.laws.sound_after.Goals as goal

pub returns : goal.returns
returns c = sound_after
