use Rattle.std.proofs.Common.{◌≡◌, refl, sym, ap, ◌∙◌, arith, length}
use Rattle.std.proofs.lemmas.Bool.{lt-ltb}
use Rattle.chess_moves.specs.inside.MoveGeneration.{moves_of_men}
use Rattle.chess_moves.proofs.Members.{no_members}
use Rattle.chess_moves.proofs.Walks.{many_first, own_others}
use Rattle.chess_moves.proofs.verdict_of_position.can_move.Goals as goal

pub mover_on-mover-requires-clause-own : goal.mover_on-mover-requires-clause-own
mover_on-mover-requires-clause-own c =
    let lowest = c.in-Some.ensures.steps.lowest in
    c.loop-origin.invariant.own c.in-Some.origin lowest.on_board lowest.there

pub returns-then-count_ways-ne0 : goal.returns-then-count_ways-ne0
returns-then-count_ways-ne0 c =
    let o = c.in-Some.origin in
    let first = many_first c.args.info.now.position.now c.mover_on-mover.result.man c.loop-origin.origin-iterator o c.next.new.self
    c.targets_at_once.result c.in-Some.ensures.steps (rw c.mover_on-mover.ensures.origin at c.targets_at_once.ensures) in
    sym (lt-ltb 0 _ (omega (arith, first, c.count_ways.ensures.count o, c.loop-origin.invariant.none, c.if-count_ways-ne0.true)))

pub loop-origin-preserved : goal.loop-origin-preserved
loop-origin-preserved c =
    let o = c.in-Some.origin in
    let first = many_first c.args.info.now.position.now c.mover_on-mover.result.man c.loop-origin.origin-iterator o c.next.new.self
    c.targets_at_once.result c.in-Some.ensures.steps (rw c.mover_on-mover.ensures.origin at c.targets_at_once.ensures) in
    record {
      none = omega (arith, first, c.count_ways.ensures.count o, c.loop-origin.invariant.none, c.if-count_ways-ne0.false);
      own = own_others c.args.info.now.position.now c.loop-origin.origin-iterator o c.next.new.self c.in-Some.ensures.steps c.loop-origin.invariant.own;
    }

pub returns : goal.returns
returns c =
    let none : length (moves_of_men c.args.info.now.position.now _) ≡ 0 =
    sym c.loop-origin.invariant.none ∙ ap length
    (ap (moves_of_men c.args.info.now.position.now) (no_members c.loop-origin.origin-iterator c.in-None.ensures.steps.0)) in
    rw none refl
