use Rattle.std.proofs.Common.{◌≡◌, ℕ, ◌^◌, ◌<◌, false, eqb, sym, ap, ◌∙◌, arith, w64}
use Rattle.std.specs.Int.{bit_not}
use Rattle.std.specs.Int.RustNames.{bit_and}
use Rattle.std.proofs.lemmas.Bool.{ne_eqb, not_from_false}
use Rattle.std.proofs.lemmas.Nat.{and_le_l}
use Rattle.square_sets.specs.Members.{has}
use Rattle.chess_board.specs.Sets.{IsSetOf}
use Rattle.chess_board.specs.Men.{is_of}
use Rattle.chess_board.specs.PseudoLegal.{steps_once}
use Rattle.chess_moves.specs.declared.directions.Leap.{Leap}
use Rattle.chess_moves.specs.inside.Leaps.{leaps}
use Rattle.chess_moves.proofs.AnyLemmas.{any_some}
use Rattle.chess_moves.proofs.SharedSquares.{nonzero}
use Rattle.chess_moves.proofs.SetBits.{has_none}
use Rattle.chess_moves.proofs.SetParts.{joined}
use Rattle.chess_moves.proofs.PawnSets.{once_set, twice_set, takes_set, twice_without_once}
use Rattle.chess_moves.proofs.pseudo_legal_targets.pawn_targets.Goals as goal

pub returns-then-step-eq0 : goal.returns-then-step-eq0
returns-then-step-eq0 c = λ t l.
    let men = c.args.info.now.position.now.men in
    let side = c.args.mover.man.colour in
    let o : ℕ = c.args.mover.origin in
    let occupied : ℕ = c.args.info.now.occupied in
    let own : ℕ = c.args.info.now.own in
    let fits : occupied < 2 ^ 64 = omega arith in
    let own_fits : own < 2 ^ 64 = omega arith in
    let own_set : IsSetOf own (is_of side) men = rw c.requires.mover.own c.requires.info.own in
    let none : (s : ℕ) → s < 64 → steps_once men side o s ≡ false = λ s k.
    sym (once_set men side occupied c.leap-2.result o s c.requires.info.occupied fits k
    (c.leap-2.ensures s k ∙ ap (λ (leap : Leap). leaps leap o s) c.step_of.ensures))
    ∙ has_none (bit_and c.leap-2.result (bit_not w64 occupied)) s c.if-step-eq0.true in
    let once = none t l in
    let twice = twice_without_once men side o t c.requires.mover.on_board l none in
    takes_set men side occupied own c.leap.result o t c.requires.info.occupied own_set own_fits l
    (c.leap.ensures t l ∙ ap (λ (leap : Leap). leaps leap o t) c.capture_of.ensures)
    ∙ rw (once, twice)

pub returns : goal.returns
returns c = λ t l.
    let men = c.args.info.now.position.now.men in
    let side = c.args.mover.man.colour in
    let o : ℕ = c.args.mover.origin in
    let occupied : ℕ = c.args.info.now.occupied in
    let own : ℕ = c.args.info.now.own in
    let fits : occupied < 2 ^ 64 = omega arith in
    let own_fits : own < 2 ^ 64 = omega arith in
    let own_set : IsSetOf own (is_of side) men = rw c.requires.mover.own c.requires.info.own in
    let step : ℕ = bit_and c.leap-2.result (bit_not w64 occupied) in
    let once = λ (s : ℕ) (k : s < 64). once_set men side occupied c.leap-2.result o s c.requires.info.occupied fits k
    (c.leap-2.ensures s k ∙ ap (λ (leap : Leap). leaps leap o s) c.step_of.ensures) in
    let found = any_some (has step) 64 (sym (nonzero step (omega (arith, and_le_l c.leap-2.result (bit_not w64 occupied))))
    ∙ not_from_false (eqb step 0) (ne_eqb step 0 c.if-step-eq0.false)) in
    let first = sym (once found.0 found.1) ∙ found.2 in
    joined _ _ t _ _
    (joined _ _ t _ _ (once t l)
    (twice_set men side occupied c.leap-3.result o found.0 t c.requires.info.occupied fits c.requires.mover.on_board l first
    (c.leap-3.ensures t l ∙ ap (λ (leap : Leap). leaps leap o t) c.double_of.ensures)))
    (takes_set men side occupied own c.leap.result o t c.requires.info.occupied own_set own_fits l
    (c.leap.ensures t l ∙ ap (λ (leap : Leap). leaps leap o t) c.capture_of.ensures))
