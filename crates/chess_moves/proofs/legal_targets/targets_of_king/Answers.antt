use Rattle.std.proofs.Common.{◌≡◌, ℕ, true, false, not, ◌&&◌, ◌||◌, refl, sym, ap, ◌∙◌, arith, bit_and, w64}
use Rattle.std.specs.Int.{bit_not}
use Rattle.square_sets.specs.Members.{has}
use Rattle.chess_moves.proofs.Sifting.{sifted_none, sifted_all, sifted_in, sifted_out}
use Rattle.chess_moves.proofs.KingTargets.{king, safe_at, king_origin, step_safe, king_goes_safely_there}
use Rattle.chess_moves.proofs.KeptWays.{targets_where_safe}
use Rattle.chess_moves.proofs.OwnColours.{other_colour}
use Rattle.chess_moves.proofs.SetBits.{has_less, has_or}
use Rattle.chess_moves.proofs.legal_targets.targets_of_king.Goals as goal

pub loop-target-init : goal.loop-target-init
loop-target-init c = let start = c.into_iter-target-iterator.ensures.into_iter_gives ∙ c.squares-target-items.ensures in rw start (sifted_none _ _)

pub loop-target-preserved-then-is_safe_step : goal.loop-target-preserved-then-is_safe_step
loop-target-preserved-then-is_safe_step c =
    let p = c.args.info.now.position.now in
    let r = c.requires in
    let steps = c.piece_targets-steps.result in
    let t : ℕ = c.in-Some.target in
    let split = c.in-Some.ensures.steps in
    let on = split.lowest.on_board in
    let at = king_origin c.args.info.now p c.args.mover.man c.args.mover.origin r.info r.mover.on_board r.mover.there r.mover.own r.king in
    let step = step_safe c.args.info.now p c.args.mover.man c.args.mover.origin steps t r.info on r.mover.own r.king at
    (c.piece_targets-steps.ensures t on) (c.loop-target.invariant.within t on split.lowest.there) in
    let safe = c.is_safe_step.ensures (king p.side) (other_colour p.side p.side refl) ∙ step.1 in
    sifted_in steps c.loop-target.target-iterator c.next.new.self c.loop-target.safe t (safe_at p c.args.info.now.king)
    c.loop-target.invariant split c.with-safe.result c.with-safe.ensures (sym safe ∙ c.if-is_safe_step.true)

pub loop-target-preserved : goal.loop-target-preserved
loop-target-preserved c =
    let p = c.args.info.now.position.now in
    let r = c.requires in
    let steps = c.piece_targets-steps.result in
    let t : ℕ = c.in-Some.target in
    let split = c.in-Some.ensures.steps in
    let on = split.lowest.on_board in
    let at = king_origin c.args.info.now p c.args.mover.man c.args.mover.origin r.info r.mover.on_board r.mover.there r.mover.own r.king in
    let step = step_safe c.args.info.now p c.args.mover.man c.args.mover.origin steps t r.info on r.mover.own r.king at
    (c.piece_targets-steps.ensures t on) (c.loop-target.invariant.within t on split.lowest.there) in
    let safe = c.is_safe_step.ensures (king p.side) (other_colour p.side p.side refl) ∙ step.1 in
    sifted_out steps c.loop-target.target-iterator c.next.new.self c.loop-target.safe t
    (safe_at p c.args.info.now.king) c.loop-target.invariant split (sym safe ∙ c.if-is_safe_step.false)

pub returns : goal.returns
returns c =
    let p = c.args.info.now.position.now in
    let r = c.requires in
    let man = c.args.mover.man in
    let o : ℕ = c.args.mover.origin in
    let steps = c.piece_targets-steps.result in
    let castlings = c.castling_targets-castlings.result in
    let safe = c.loop-target.safe in
    let at = king_origin c.args.info.now p man o r.info r.mover.on_board r.mover.there r.mover.own r.king in
    targets_where_safe p man o _ r.mover.there r.mover.own (λ t x on suited.
    let passed = sifted_all steps c.loop-target.target-iterator safe
    (safe_at p c.args.info.now.king) c.in-None.ensures.steps.0 c.loop-target.invariant t on in
    king_goes_safely_there c.args.info.now p man o steps castlings t x r.info on r.mover.own r.king at
    (c.piece_targets-steps.ensures t on) (c.castling_targets-castlings.ensures t on) suited
    ∙ ap (λ b. b || has castlings t) (sym passed) ∙ sym (has_or safe castlings t))

pub returns-then-steps-info : goal.returns-then-steps-info
returns-then-steps-info c =
    let info = c.args.info.now in
    let p = info.position.now in
    let r = c.requires in
    let man = c.args.mover.man in
    let o : ℕ = c.args.mover.origin in
    let steps : ℕ = c.piece_targets-steps.result in
    let unsafe : ℕ = c.unsafe_squares.result in
    let castlings : ℕ = c.castling_targets-castlings.result in
    let safe : ℕ = bit_and steps (bit_not w64 unsafe) in
    let at = king_origin info p man o r.info r.mover.on_board r.mover.there r.mover.own r.king in
    targets_where_safe p man o _ r.mover.there r.mover.own (λ t x on suited.
    let passed : (has steps t && safe_at p info.king t) ≡ has safe t =
    (elim (has steps t) as (λ b. has steps t ≡ b → (b && safe_at p info.king t) ≡ (b && not (has unsafe t))) [
      | true ↦ λ there.
          let step = step_safe info p man o steps t r.info on r.mover.own r.king at (c.piece_targets-steps.ensures t on) there in
          sym (ap not (c.unsafe_squares.ensures t (king p.side) on (other_colour p.side p.side refl)) ∙ step.1)
      | false ↦ λ none. refl
    ]) refl ∙ sym (has_less steps unsafe t (omega arith) on) in
    king_goes_safely_there info p man o steps castlings t x r.info on r.mover.own r.king at
    (c.piece_targets-steps.ensures t on) (c.castling_targets-castlings.ensures t on) suited
    ∙ ap (λ b. b || has castlings t) passed ∙ sym (has_or safe castlings t))
