use Rattle.std.proofs.Common.{◌^◌, ◌<◌, sym, ap, ◌∙◌, arith}
use Rattle.chess_board.specs.declared.men.Colour.{Colour}
use Rattle.chess_board.specs.Men.{is_of}
use Rattle.chess_board.specs.Positions.{man_at}
use Rattle.chess_board.specs.Attacks.{attacks_as}
use Rattle.chess_moves.proofs.SetParts.{parted}
use Rattle.chess_moves.proofs.ManSets.{hits_by_set}
use Rattle.chess_moves.proofs.pseudo_legal_targets.piece_targets.Goals as goal

pub returns : goal.returns
returns c = λ t l.
    let men = c.args.info.now.position.now.men in
    let side = c.args.mover.man.colour in
    let fits : c.args.info.now.own < 2 ^ 64 = omega arith in
    parted c.attacks_of.result c.args.info.now.own t (attacks_as men side c.args.mover.man.kind c.args.mover.origin t) (is_of side (man_at men t)) fits l
    (c.attacks_of.ensures t l ∙ hits_by_set men c.args.info.now.occupied c.requires.info.occupied side
    c.args.mover.man.kind c.args.mover.origin t c.requires.mover.on_board l)
    (c.requires.info.own t l ∙ ap (λ (colour : Colour). is_of colour (man_at men t)) (sym c.requires.mover.own))
