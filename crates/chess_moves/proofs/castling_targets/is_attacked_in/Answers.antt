use Rattle.std.proofs.Common.{◌≡◌, sym, ap, ◌∙◌}
use Rattle.chess_board.specs.declared.men.Colour.{Colour}
use Rattle.chess_board.specs.Men.{other_side}
use Rattle.chess_board.specs.Attacks.{is_attacked}
use Rattle.chess_moves.specs.inside.SideMen.{StandFor}
use Rattle.chess_moves.proofs.Bridge.{attacked_same}
use Rattle.chess_moves.proofs.castling_targets.is_attacked_in.Goals as goal

pub returns : goal.returns
returns c =
    let p = c.args.info.now.position.now in
    let info = c.requires.info in
    let by : c.other.result ≡ other_side p.side = c.other.ensures ∙ ap other_side info.side in
    let stand : StandFor c.args.info.now.enemy c.other.result p.men = rw by info.enemy in
    c.is_hit_over.ensures p.men info.occupied stand
    ∙ sym (attacked_same p.men c.args.square c.other.result c.requires.on_board)
    ∙ ap (λ (colour : Colour). is_attacked p.men c.args.square colour) by
