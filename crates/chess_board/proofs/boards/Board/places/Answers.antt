use Rattle.std.proofs.Common.{Option, None, arith}
use Rattle.std.proofs.lemmas.Bool.{le-ltb}
use Rattle.std.proofs.lemmas.List.{length-replicate, get_or-replicate}
use Rattle.chess_board.specs.declared.men.Man.{Man}
use Rattle.chess_board.proofs.BoardWords.{AreWordsOf-shown, same_men-filled}
use Rattle.chess_board.proofs.boards.Board.places.Goals as goal

pub loop-number-init : goal.loop-number-init
loop-number-init c = record {
  squares = length-replicate {A = Option Man} 64 None;
  filled = λ k inside. rw (le-ltb k 0 (omega arith)) (get_or-replicate 64 k None None inside);
}

pub returns : goal.returns
returns c =
    let l = c.loop-number in
    let words = AreWordsOf-shown c.args.self.now c.self.inside c.self.view_is c.self.invariant in
    same_men-filled l.places c.args.self.now l.number (omega arith) l.invariant.squares words.squares l.invariant.filled
