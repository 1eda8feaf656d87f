use Rattle.std.proofs.Common.{not, refl, sym, subst, ◌∙◌}
use Rattle.chess_board.specs.Men.{other_side}
use Rattle.chess_board.specs.Positions.{moved}
use Rattle.chess_board.specs.MakeMove.{becomes}
use Rattle.chess_moves.specs.inside.Hits.{is_hit}
use Rattle.chess_moves.specs.inside.LegalTargets.{IsTarget}
use Rattle.chess_moves.proofs.PawnTargets.{pawn_goes_safely}
use Rattle.chess_moves.proofs.KeptWays.{ways_kept}
use Rattle.chess_moves.proofs.legal_targets.is_target_of_pawn.Goals as goal

pub returns-then-not-contains : goal.returns-then-not-contains
returns-then-not-contains c =
    let p = c.args.info.now.position.now in
    let man = c.args.mover.man in
    let o = c.args.mover.origin in
    let t = c.args.target in
    let r = c.requires in
    let on = r.on_board in
    let out = sym (c.pawn_targets-goes.ensures t on) ∙ (sym c.contains.ensures ∙ c.if-not-contains.true) in
    ways_kept p man o t _ r.mover.there r.mover.own (λ x suited.
    pawn_goes_safely c.args.info.now p man o t x (not (is_hit (moved p.men o t (becomes man x)) c.args.info.now.king (other_side p.side)))
    r.info r.mover.there r.mover.own r.pawn suited refl
    ∙ rw out (sym (c.contains-then-not-contains.ensures ∙ c.safe_en_passant-passing.ensures t on)))

pub returns : goal.returns
returns c = subst (λ b. IsTarget b c.args.info.now.position.now c.args.mover.man c.args.mover.origin c.args.target) (sym c.contains-2.ensures)
    (c.targets_of_pawn.ensures c.args.target c.requires.on_board)
