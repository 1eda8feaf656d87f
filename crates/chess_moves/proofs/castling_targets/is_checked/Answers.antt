use Rattle.std.proofs.Common.{not, sym, ap, ◌∙◌}
use Rattle.chess_board.specs.Men.{other_side}
use Rattle.chess_moves.proofs.Bridge.{attacked_same}
use Rattle.chess_moves.proofs.Connectives.{not_not}
use Rattle.chess_moves.proofs.Arrivals.{hit_through}
use Rattle.chess_moves.proofs.castling_targets.is_checked.Goals as goal

pub returns : goal.returns
returns c =
    let p = c.args.info.now.position.now in
    let info = c.requires in
    let on = info.on_board in
    let k = c.args.info.now.king in
    ap not (c.contains-2.ensures ∙ info.check_mask k k on on (sym c.contains.ensures ∙ c.if-contains.false))
    ∙ not_not _
    ∙ hit_through p.men (other_side p.side) k
    ∙ sym (attacked_same p.men k (other_side p.side) on)
