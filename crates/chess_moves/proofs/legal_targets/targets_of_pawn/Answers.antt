use Rattle.std.proofs.Common.{bit_and, ◌∙◌}
use Rattle.square_sets.specs.Members.{has}
use Rattle.chess_board.specs.MakeMove.{becomes}
use Rattle.chess_moves.proofs.SetBits.{has_and, has_or}
use Rattle.chess_moves.proofs.OwnColours.{other_colour, own_not_other}
use Rattle.chess_moves.proofs.OtherMen.{becomes_colour}
use Rattle.chess_moves.proofs.PawnTargets.{pawn_goes_safely}
use Rattle.chess_moves.proofs.KeptWays.{targets_where_safe}
use Rattle.chess_moves.proofs.legal_targets.targets_of_pawn.Goals as goal

pub returns : goal.returns
returns c =
    let p = c.args.info.now.position.now in
    let man = c.args.mover.man in
    let o = c.args.mover.origin in
    let r = c.requires in
    let h = c.requires.info in
    let plain = c.pawn_targets.result in
    let free = c.legal_mask-allowed.result in
    targets_where_safe p man o _ r.mover.there r.mover.own (λ t x on suited.
    let own = other_colour (becomes man x).colour p.side (becomes_colour man x ∙ r.mover.own) in
    let safe = c.legal_mask-allowed.ensures (becomes man x) (own_not_other p man o r.mover.there r.mover.own) own t on in
    rw (has_or (bit_and plain free) c.safe_en_passant.result t, has_and plain free t, c.pawn_targets.ensures t on, c.safe_en_passant.ensures t on)
    (pawn_goes_safely c.args.info.now p man o t x (has free t) h r.mover.there r.mover.own r.pawn suited safe))
