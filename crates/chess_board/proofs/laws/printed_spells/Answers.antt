use Rattle.chess_board.proofs.FieldWords.{printed_words}
use Rattle.chess_board.proofs.laws.printed_spells.Goals as goal

pub returns : goal.returns
returns c = printed_words
