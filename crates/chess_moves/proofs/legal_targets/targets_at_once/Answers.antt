use Rattle.std.proofs.Common.{sym, ◌∙◌}
use Rattle.square_sets.specs.Members.{has}
use Rattle.chess_board.specs.Men.{other_side}
use Rattle.chess_board.specs.MakeMove.{becomes}
use Rattle.chess_moves.proofs.SetBits.{has_and}
use Rattle.chess_moves.proofs.OwnColours.{other_colour, own_not_other}
use Rattle.chess_moves.proofs.OtherMen.{becomes_colour}
use Rattle.chess_moves.proofs.PieceTargets.{piece_goes_safely}
use Rattle.chess_moves.proofs.KeptWays.{targets_where_safe}
use Rattle.chess_moves.proofs.SpecialMoves.{is_piece}
use Rattle.chess_moves.proofs.Unpinned.{safe_unpinned}
use Rattle.chess_moves.proofs.legal_targets.targets_at_once.Goals as goal

pub returns-else-contains : goal.returns-else-contains
returns-else-contains c =
    let p = c.args.info.now.position.now in
    let man = c.args.mover.man in
    let o = c.args.mover.origin in
    let s = c.args.info.now in
    let r = c.requires in
    let h = c.requires.info in
    let kind = is_piece man.kind c.in-Knight.is in
    let unheld = sym c.contains.ensures ∙ c.if-contains.false in
    targets_where_safe p man o _ r.mover.there r.mover.own (λ t x on suited.
    let own = other_colour (becomes man x).colour p.side (becomes_colour man x ∙ r.mover.own) in
    let safe = h.check_mask o t r.mover.on_board on unheld
    ∙ safe_unpinned p.men (becomes man x) s.king o t (other_side p.side) h.sound.squares on own
    (λ a l. h.pin_squares o a r.mover.on_board l unheld (own_not_other p man o r.mover.there r.mover.own)) in
    rw (has_and c.piece_targets.result s.check_mask t, c.piece_targets.ensures t on)
    (piece_goes_safely s p man o t x (has s.check_mask t) h r.mover.there r.mover.own kind.0 kind.1 suited safe))
