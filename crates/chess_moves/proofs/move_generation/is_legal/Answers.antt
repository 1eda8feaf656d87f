use Rattle.std.proofs.Common.{◌≡◌, false, sym, ap, ◌∙◌}
use Rattle.chess_board.specs.Men.{is_of}
use Rattle.chess_board.specs.Moves.{Move}
use Rattle.chess_board.specs.Positions.{Setup, man_at}
use Rattle.chess_moves.proofs.Listed.{legal_target}
use Rattle.chess_moves.proofs.Played.{not_own, not_suited}
use Rattle.chess_moves.proofs.move_generation.is_legal.Goals as goal

pub returns-then-not-contains : goal.returns-then-not-contains
returns-then-not-contains c =
    let p : Setup = c.args.position.now in
    let m : Move = c.args.m in
    let o : c.index-origin.result ≡ m.origin = c.index-origin.ensures.number ∙ ap (λ m. m.origin) c.m.view_is in
    let none : is_of p.side (man_at p.men m.origin) ≡ false = ap (λ s. is_of p.side (man_at p.men s)) (sym o)
    ∙ ap (λ side. is_of side (man_at p.men c.index-origin.result)) (sym c.side.ensures.side)
    ∙ sym (c.all_of-own.ensures p.men c.side.result c.side_men_of.ensures c.index-origin.result c.index-origin.ensures.on_board)
    ∙ sym c.contains.ensures ∙ c.if-not-contains.true in
    sym (not_own p m none)

pub returns-then-not-is_suited : goal.returns-then-not-is_suited
returns-then-not-is_suited c =
    let p : Setup = c.args.position.now in
    let m : Move = c.args.m in
    let o : c.index-origin.result ≡ m.origin = c.index-origin.ensures.number ∙ ap (λ m. m.origin) c.m.view_is in
    sym (not_suited p m c.mover_on-mover.result.man (ap (man_at p.men) (sym (c.mover_on-mover.ensures.origin ∙ o)) ∙ c.mover_on-mover.ensures.mover.there)
    (sym c.is_suited.ensures ∙ c.if-not-is_suited.true))

pub returns : goal.returns
returns c =
    let p : Setup = c.args.position.now in
    let m : Move = c.args.m in
    let o : c.index-origin.result ≡ m.origin = c.index-origin.ensures.number ∙ ap (λ m. m.origin) c.m.view_is in
    let t : c.index-target.result ≡ m.target = c.index-target.ensures.number ∙ ap (λ m. m.target) c.m-2.view_is in
    sym (legal_target p c.mover_on-mover.result.man m.origin m.target m.promotion c.is_target.result
    (sym c.is_suited.ensures ∙ c.if-not-is_suited.false) (rw (c.bare_info_of-info.ensures.position, c.mover_on-mover.ensures.origin, o, t) at c.is_target.ensures))
