use Rattle.std.proofs.lemmas.Bool.{both_ways}
use Rattle.square_sets.specs.Members.{has}
use Rattle.chess_board.specs.declared.men.Kind.TheVariants.{King}
use Rattle.chess_moves.proofs.MatingMen.{among}
use Rattle.chess_moves.proofs.SetBits.{has_none}
use Rattle.chess_moves.proofs.SpecialMoves.{plain_king}
use Rattle.chess_moves.proofs.mating_men.castling_king.Goals as goal

pub returns-then-castling_goals-eq0 : goal.returns-then-castling_goals-eq0
returns-then-castling_goals-eq0 c = λ m man legal there king on t_on none.
    plain_king c.args.info.now c.args.info.now.position.now man m c.requires legal there on king
    (c.castling_goals.ensures m.target t_on (has_none c.castling_goals.result m.target c.if-castling_goals-eq0.true))

pub returns : goal.returns
returns c = λ m man legal there king on t_on none.
    let p = c.args.info.now.position.now in
    absurd (both_ways (has c.men.result m.origin) none
    (among p m man there legal c.args.info.now.side King c.men.result c.requires.side c.men.ensures king on))
