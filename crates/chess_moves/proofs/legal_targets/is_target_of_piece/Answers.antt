use Rattle.std.proofs.Common.{not, ◌&&◌, refl, sym, ap, ◌∙◌}
use Rattle.chess_board.specs.Men.{other_side}
use Rattle.chess_board.specs.Positions.{moved}
use Rattle.chess_board.specs.MakeMove.{becomes}
use Rattle.chess_moves.specs.inside.Hits.{is_hit}
use Rattle.chess_moves.proofs.OwnColours.{other_colour, own_not_other}
use Rattle.chess_moves.proofs.OtherMen.{becomes_colour}
use Rattle.chess_moves.proofs.PieceTargets.{piece_goes_safely}
use Rattle.chess_moves.proofs.KeptWays.{ways_kept}
use Rattle.chess_moves.proofs.legal_targets.is_target_of_piece.Goals as goal

pub returns-then-not-contains : goal.returns-then-not-contains
returns-then-not-contains c =
    let p = c.args.info.now.position.now in
    let man = c.args.mover.man in
    let o = c.args.mover.origin in
    let t = c.args.target in
    let r = c.requires in
    let out = sym (c.piece_targets-goes.ensures t r.on_board) ∙ (sym c.contains.ensures ∙ c.if-not-contains.true) in
    ways_kept p man o t _ r.mover.there r.mover.own (λ x suited.
    piece_goes_safely c.args.info.now p man o t x (not (is_hit (moved p.men o t (becomes man x)) c.args.info.now.king (other_side p.side)))
    r.info r.mover.there r.mover.own r.no_pawn r.no_king suited refl
    ∙ ap (λ b. b && not (is_hit (moved p.men o t (becomes man x)) c.args.info.now.king (other_side p.side))) out)

pub returns : goal.returns
returns c =
    let p = c.args.info.now.position.now in
    let man = c.args.mover.man in
    let o = c.args.mover.origin in
    let t = c.args.target in
    let r = c.requires in
    let on = r.on_board in
    let there = sym (c.piece_targets-goes.ensures t on) ∙ (sym c.contains.ensures ∙ c.if-not-contains.false) in
    ways_kept p man o t _ r.mover.there r.mover.own (λ x suited.
    let own = other_colour (becomes man x).colour p.side (becomes_colour man x ∙ r.mover.own) in
    let safe = c.legal_mask.ensures (becomes man x) (own_not_other p man o r.mover.there r.mover.own) own t on in
    piece_goes_safely c.args.info.now p man o t x c.contains-2.result
    r.info r.mover.there r.mover.own r.no_pawn r.no_king suited (c.contains-2.ensures ∙ safe)
    ∙ ap (λ b. b && c.contains-2.result) there)
