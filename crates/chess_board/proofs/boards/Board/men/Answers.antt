use Rattle.chess_board.proofs.BoardWords.{IsSetOf-is_man}
use Rattle.chess_board.proofs.boards.Board.men.Goals as goal

pub returns : goal.returns
returns c = IsSetOf-is_man c.args.self.now c.side.result c.kind.result c.args.colour c.args.kind c.side.ensures c.kind.ensures
