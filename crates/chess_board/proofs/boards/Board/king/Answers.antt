use Rattle.chess_board.specs.declared.men.Kind.TheVariants.{King}
use Rattle.chess_board.proofs.BoardWords.{AreWordsOf-shown, IsSetOf-is_man, some_king, king_there}
use Rattle.chess_board.proofs.boards.Board.king.Goals as goal

pub lowest-requires : goal.lowest-requires
lowest-requires c =
    let h = AreWordsOf-shown c.args.self.now c.self.inside c.self.view_is c.self.invariant in
    let kings = IsSetOf-is_man c.args.self.now c.side.result c.kind.result c.args.colour King c.side.ensures c.kind.ensures in
    some_king c.args.self.now _ c.args.colour h.squares kings c.requires

pub returns-clause-king : goal.returns-clause-king
returns-clause-king c =
    let kings = IsSetOf-is_man c.args.self.now c.side.result c.kind.result c.args.colour King c.side.ensures c.kind.ensures in
    rw c.numbered.ensures (king_there c.args.self.now _ c.args.colour _ kings c.lowest.ensures.on_board c.lowest.ensures.there)
