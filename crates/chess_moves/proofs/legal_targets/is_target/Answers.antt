use Rattle.std.proofs.Common.{ℕ, ◌&&◌, ◌||◌, refl, sym, ap, ◌∙◌}
use Rattle.square_sets.specs.Members.{has}
use Rattle.chess_moves.proofs.KeptWays.{ways_kept}
use Rattle.chess_moves.proofs.KingTargets.{king, safe_at, king_origin, step_safe, king_goes_safely, king_goes_safely_there}
use Rattle.chess_moves.proofs.OwnColours.{other_colour}
use Rattle.chess_moves.proofs.legal_targets.is_target.Goals as goal

pub returns-then-contains : goal.returns-then-contains
returns-then-contains c =
    let p = c.args.info.now.position.now in
    let k : ℕ = c.args.info.now.king in
    let r = c.requires in
    let man = c.args.mover.man in
    let o : ℕ = c.args.mover.origin in
    let t : ℕ = c.args.target in
    let on = r.on_board in
    let at = king_origin c.args.info.now p man o r.info r.mover.on_board r.mover.there r.mover.own c.in-King.is in
    let step = step_safe c.args.info.now p man o c.piece_targets-steps.result t r.info on r.mover.own c.in-King.is at
    (c.piece_targets-steps.ensures t on) (sym c.contains.ensures ∙ c.if-contains.true) in
    let safe = c.is_safe_step.ensures (king p.side) (other_colour p.side p.side refl) ∙ step.1 in
    ways_kept p man o t c.is_safe_step.result r.mover.there r.mover.own (λ x suited.
    king_goes_safely p man o k t x r.mover.own c.in-King.is at suited ∙ ap (λ b. b && safe_at p k t) step.0 ∙ sym safe)

pub returns-else-contains : goal.returns-else-contains
returns-else-contains c =
    let p = c.args.info.now.position.now in
    let k : ℕ = c.args.info.now.king in
    let r = c.requires in
    let man = c.args.mover.man in
    let o : ℕ = c.args.mover.origin in
    let t : ℕ = c.args.target in
    let on = r.on_board in
    let steps = c.piece_targets-steps.result in
    let castlings = c.castling_targets.result in
    let at = king_origin c.args.info.now p man o r.info r.mover.on_board r.mover.there r.mover.own c.in-King.is in
    ways_kept p man o t c.contains-else-contains.result r.mover.there r.mover.own (λ x suited.
    king_goes_safely_there c.args.info.now p man o steps castlings t x r.info on r.mover.own c.in-King.is at
    (c.piece_targets-steps.ensures t on) (c.castling_targets.ensures t on) suited
    ∙ ap (λ b. (b && safe_at p k t) || has castlings t) (sym c.contains.ensures ∙ c.if-contains.false) ∙ sym c.contains-else-contains.ensures)
