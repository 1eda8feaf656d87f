use Rattle.chess_board.proofs.BoardWords.{AreWordsOf-shown, IsSetOf-side}
use Rattle.chess_board.proofs.boards.Board.side.Goals as goal

pub returns : goal.returns
returns c =
    IsSetOf-side c.args.self.now c.self.inside c.args.colour (AreWordsOf-shown c.args.self.now c.self.inside c.self.view_is c.self.invariant)
