use Rattle.std.proofs.Common.{replicate, None}
use Rattle.chess_board.proofs.BoardWords.{no_words, AreWordsOf-empty, men_of-AreWordsOf, AreTheirWords-AreWordsOf}
use Rattle.chess_board.proofs.boards.Board.empty.Goals as goal

pub invariant_of-result : goal.invariant_of-result
invariant_of-result c = AreTheirWords-AreWordsOf (replicate 64 None) no_words AreWordsOf-empty

pub returns : goal.returns
returns c = men_of-AreWordsOf (replicate 64 None) no_words AreWordsOf-empty
