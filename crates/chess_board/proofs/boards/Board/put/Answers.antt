use Rattle.std.proofs.Common.{Some, set, ◌<◌, arith}
use denote.Enum.Declared.{tag_of}
use Rattle.chess_board.specs.contracts.men.Colour.{the_type as colour_type}
use Rattle.chess_board.specs.contracts.men.Kind.{the_type as kind_type}
use Rattle.chess_board.specs.inside.Boards.{AreWordsOf}
use Rattle.chess_board.proofs.BoardWords.{AreWordsOf-shown, AreWordsOf-with, men_of-AreWordsOf, AreTheirWords-AreWordsOf}
use Rattle.chess_board.proofs.boards.Board.put.Goals as goal

words : (c : goal.After-with-2) → AreWordsOf (set c.args.self.now c.args.square (Some c.args.man)) (record {
  by_colour = set c.self.inside.by_colour (tag_of colour_type c.args.man.colour) c.with.result;
  by_kind = set c.self.inside.by_kind (tag_of kind_type c.args.man.kind) c.with-2.result;
})
words c =
    let men = c.args.self.now in
    let s = c.args.square in
    let b = c.self.inside in
    let on : s < 64 = omega arith in
    let h = AreWordsOf-shown men b c.self.view_is c.self.invariant in
    AreWordsOf-with men b s c.index-index.result c.args.man c.with.result c.with-2.result h on c.index-index.ensures.number c.requires
    c.with.type_inv c.with.ensures c.with-2.type_inv c.with-2.ensures

pub invariant_of-self : goal.invariant_of-self
invariant_of-self c = AreTheirWords-AreWordsOf _ _ (words c)

pub returns : goal.returns
returns c = men_of-AreWordsOf _ _ (words c)
