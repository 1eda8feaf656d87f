use Rattle.std.proofs.Common.{◌<◌, sym, ap, subst, ◌∙◌, refl}
use Rattle.chess_board.specs.Positions.{man_at}
use Rattle.chess_moves.proofs.MatingMen.{neither}
use Rattle.chess_moves.proofs.flights.squares_at_lasting.Goals as goal

pub returns : goal.returns
returns c = λ m legal at t_on out.
    let both = neither c.special_squares.result c.squares_on_lasting.result m.target out in
    let on : m.origin < 64 = subst (λ s. s < 64) (sym at) c.requires.mover.on_board in
    let there = ap (man_at c.args.info.now.position.now.men) at ∙ c.requires.mover.there in
    c.squares_on_lasting.ensures m c.args.mover.man legal there refl (c.special_squares.ensures m legal there on t_on both.0) on t_on both.1
