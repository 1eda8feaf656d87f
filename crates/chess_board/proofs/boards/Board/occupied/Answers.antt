use Rattle.chess_board.proofs.BoardWords.{AreWordsOf-shown, IsSetOf-occupied}
use Rattle.chess_board.proofs.boards.Board.occupied.Goals as goal

pub returns-clause-occupied : goal.returns-clause-occupied
returns-clause-occupied c = IsSetOf-occupied c.args.self.now c.side.result c.side-2.result c.side.ensures c.side-2.ensures

pub returns-clause-squares : goal.returns-clause-squares
returns-clause-squares c = (AreWordsOf-shown c.args.self.now c.self.inside c.self.view_is c.self.invariant).squares
