use Rattle.std.proofs.Common.{◌∙◌, sym, ap, arith}
use Rattle.chess_moves.specs.inside.Hits.{is_hit}
use Rattle.chess_moves.proofs.Bridge.{attacked_same}
use Rattle.chess_moves.proofs.attackers.attacked.Goals as goal

pub returns : goal.returns
returns c =
    c.is_hit_over.ensures c.args.position.now.men c.occupied.ensures c.side_men_of-side_men.ensures
    ∙ ap (λ s. is_hit c.args.position.now.men s c.args.by) c.index.ensures.number
    ∙ sym (attacked_same c.args.position.now.men c.args.square c.args.by (omega arith))
