use Rattle.chess_board.specs.Men.{is_of}
use Rattle.chess_board.proofs.BoardWords.{AreWordsOf-shown}
use Rattle.chess_board.proofs.SetCounts.{count_ones-IsSetOf}
use Rattle.chess_board.proofs.boards.Board.side_count.Goals as goal

pub returns-clause-count : goal.returns-clause-count
returns-clause-count c =
    let h = AreWordsOf-shown c.args.self.now c.self.inside c.self.view_is c.self.invariant in
    count_ones-IsSetOf (is_of c.args.colour) c.args.self.now c.side.result h.squares c.side.type_inv c.side.ensures

pub returns-clause-squares : goal.returns-clause-squares
returns-clause-squares c = (AreWordsOf-shown c.args.self.now c.self.inside c.self.view_is c.self.invariant).squares
