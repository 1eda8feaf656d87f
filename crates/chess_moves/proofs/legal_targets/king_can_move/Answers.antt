use Rattle.std.proofs.Common.{◌≡◌, ℕ, ◌^◌, ◌<◌, true, false, not, ◌||◌, eqb, List, filter, length, refl, sym, ap, subst, ◌∙◌, arith}
use Rattle.std.specs.List.{flat_map}
use Rattle.std.specs.Prelude.{nat_lt, Some}
use Rattle.std.proofs.lemmas.Bool.{and_from, eqb-true}
use Rattle.square_sets.specs.Members.{has}
use Rattle.chess_board.specs.declared.men.Kind.TheVariants.{King}
use Rattle.chess_board.specs.declared.men.Man.{Man}
use Rattle.chess_board.specs.Legality.{is_legal}
use Rattle.chess_board.specs.PseudoLegal.{goes, promotes}
use Rattle.chess_board.specs.Men.{man_of}
use Rattle.chess_board.specs.Moves.{Move}
use Rattle.chess_board.specs.Positions.{Setup, man_at}
use Rattle.chess_moves.specs.inside.Listing.{moves_to}
use Rattle.chess_moves.specs.inside.LegalTargets.{ways, AreTargets, IsTarget}
use Rattle.chess_moves.proofs.AnyLemmas.{any_some}
use Rattle.chess_moves.proofs.Sifting.{sifted_none, sifted_all, sifted_out}
use Rattle.chess_moves.proofs.KingTargets.{king, safe_at, step_safe, king_goes_safely, king_goes_safely_there}
use Rattle.chess_moves.proofs.KeptWays.{ways_kept, targets_where_safe}
use Rattle.chess_moves.proofs.Listed.{some_legal}
use Rattle.chess_moves.proofs.Members.{no_members}
use Rattle.chess_moves.proofs.OwnColours.{other_colour}
use Rattle.chess_moves.proofs.SetBits.{has_none}
use Rattle.chess_moves.proofs.SharedSquares.{nonzero}
use Rattle.chess_moves.proofs.Walks.{legal_to}
use Rattle.chess_moves.proofs.legal_targets.king_can_move.Goals as goal

-- A man that is nowhere promoted has a legal move where it has a target.
some_target : (p : Setup) (man : Man) (o set : ℕ) → set < 2 ^ 64 → ((t : ℕ) → promotes man t ≡ false) → AreTargets set p man o
    → not (eqb set 0) ≡ nat_lt 0 (length (filter (is_legal p) (moves_to o 64)))
some_target p man o set fits last are = (elim (eqb set 0) as (λ b. eqb set 0 ≡ b → not b ≡ nat_lt 0 (length (filter (is_legal p) (moves_to o 64)))) [
  | true ↦ λ e. sym (ap (λ (ms : List Move). nat_lt 0 (length ms))
      (legal_to p man o set are ∙ ap (flat_map (ways man o)) (no_members set (eqb-true set 0 e))))
  | false ↦ λ e.
      let found = any_some (has set) 64 (sym (nonzero set fits) ∙ ap not e) in
      sym (some_legal p man o found.0 found.1 (last found.0) (subst (λ b. IsTarget b p man o found.0) found.2 (are found.0 found.1)))
]) refl

pub loop-target-init : goal.loop-target-init
loop-target-init c = let start = c.into_iter-target-iterator.ensures.into_iter_gives ∙ c.squares-target-items.ensures in rw start (sifted_none _ _)

pub returns-then-is_safe_step : goal.returns-then-is_safe_step
returns-then-is_safe_step c =
    let p = c.args.info.now.position.now in
    let k : ℕ = c.args.info.now.king in
    let h = c.requires.info in
    let man : Man = record { colour = c.args.info.now.side; kind = King } in
    let there : man_at p.men k ≡ Some man = h.king ∙ ap (λ side. man_of side King) (sym h.side) in
    let t : ℕ = c.in-Some.target in
    let lowest = c.in-Some.ensures.steps.lowest in
    let on = lowest.on_board in
    let step = step_safe c.args.info.now p man k c.piece_targets-steps.result t h on h.side refl refl
    (rw c.king_of.ensures.king at (c.piece_targets-steps.ensures t on)) (c.loop-target.invariant.within t on lowest.there) in
    let safe : safe_at p k t ≡ true =
    sym (c.is_safe_step.ensures (king p.side) (other_colour p.side p.side refl) ∙ step.1) ∙ c.if-is_safe_step.true in
    sym (some_legal p man k t on refl (ways_kept p man k t true there h.side (λ x suited.
    king_goes_safely p man k k t x h.side refl refl suited ∙ and_from (goes p p.side King k t) (safe_at p k t) step.0 safe)))

pub loop-target-preserved : goal.loop-target-preserved
loop-target-preserved c =
    let p = c.args.info.now.position.now in
    let k : ℕ = c.args.info.now.king in
    let h = c.requires.info in
    let man : Man = record { colour = c.args.info.now.side; kind = King } in
    let steps = c.piece_targets-steps.result in
    let t : ℕ = c.in-Some.target in
    let split = c.in-Some.ensures.steps in
    let on = split.lowest.on_board in
    let step = step_safe c.args.info.now p man k steps t h on h.side refl refl (rw c.king_of.ensures.king at (c.piece_targets-steps.ensures t on))
    (c.loop-target.invariant.within t on split.lowest.there) in
    let safe = c.is_safe_step.ensures (king p.side) (other_colour p.side p.side refl) ∙ step.1 in
    sifted_out steps c.loop-target.target-iterator c.next.new.self 0 t
    (safe_at p k) c.loop-target.invariant split (sym safe ∙ c.if-is_safe_step.false)

pub returns : goal.returns
returns c =
    let p = c.args.info.now.position.now in
    let k : ℕ = c.args.info.now.king in
    let h = c.requires.info in
    let man : Man = record { colour = c.args.info.now.side; kind = King } in
    let there : man_at p.men k ≡ Some man = h.king ∙ ap (λ side. man_of side King) (sym h.side) in
    let steps = c.piece_targets-steps.result in
    let castlings = c.castling_targets.result in
    let fits : castlings < 2 ^ 64 = omega arith in
    some_target p man k castlings fits (λ t. refl) (targets_where_safe p man k castlings there h.side (λ t x on suited.
    let none = sifted_all steps c.loop-target.target-iterator 0 (safe_at p k) c.in-None.ensures.steps.0 c.loop-target.invariant t on in
    king_goes_safely_there c.args.info.now p man k steps castlings t x h on h.side refl refl (rw c.king_of.ensures.king at (c.piece_targets-steps.ensures t on))
    (c.castling_targets.ensures t on) suited
    ∙ ap (λ b. b || has castlings t) (sym none ∙ has_none 0 t refl)))
