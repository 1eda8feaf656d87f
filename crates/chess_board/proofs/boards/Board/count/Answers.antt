use Rattle.chess_board.specs.Men.{is_man}
use Rattle.chess_board.proofs.BoardWords.{AreWordsOf-shown}
use Rattle.chess_board.proofs.SetCounts.{count_ones-IsSetOf}
use Rattle.chess_board.proofs.boards.Board.count.Goals as goal

pub returns : goal.returns
returns c =
    let h = AreWordsOf-shown c.args.self.now c.self.inside c.self.view_is c.self.invariant in
    count_ones-IsSetOf (is_man c.args.colour c.args.kind) c.args.self.now c.men.result h.squares c.men.type_inv c.men.ensures
