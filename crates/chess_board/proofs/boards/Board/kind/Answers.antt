use Rattle.chess_board.proofs.BoardWords.{AreWordsOf-shown, IsSetOf-kind}
use Rattle.chess_board.proofs.boards.Board.kind.Goals as goal

pub returns : goal.returns
returns c =
    IsSetOf-kind c.args.self.now c.self.inside c.args.kind (AreWordsOf-shown c.args.self.now c.self.inside c.self.view_is c.self.invariant)
