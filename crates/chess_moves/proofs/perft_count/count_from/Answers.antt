use Rattle.std.proofs.Common.{ℕ, ap, arith, length}
use Rattle.chess_moves.specs.inside.MoveGeneration.{moves_of_men}
use Rattle.chess_moves.proofs.Members.{no_members}
use Rattle.chess_moves.proofs.Walks.{many_first}
use Rattle.chess_moves.proofs.Tallies.{few_of_kind, there_of_kind, others_of_kind}
use Rattle.chess_moves.proofs.perft_count.count_from.Goals as goal

pub targets_at_once-requires-clause-mover : goal.targets_at_once-requires-clause-mover
targets_at_once-requires-clause-mover c =
    let side = c.requires.info.side in
    let lowest = c.in-Some.ensures.steps.lowest in
    record {
      on_board = lowest.on_board;
      there = there_of_kind c.args.info.now.position.now c.args.kind c.loop-origin.origin-iterator c.in-Some.origin c.args.info.now.side
          side lowest c.loop-origin.invariant.men;
      own = side;
    }

pub overflow_add-total : goal.overflow_add-total
overflow_add-total c = omega (
  arith,
  few_of_kind c.args.info.now.position.now c.args.kind c.args.men c.args.info.now.own
      c.requires.info.sound c.requires.info.own c.requires.men,
  c.count_ways-total.ensures.few,
  c.loop-origin.invariant.counted,
)

pub loop-origin-preserved : goal.loop-origin-preserved
loop-origin-preserved c =
    let p = c.args.info.now.position.now in
    let origins : ℕ = c.loop-origin.origin-iterator in
    let split = c.in-Some.ensures.steps in
    let first = many_first p (record { colour = c.args.info.now.side; kind = c.args.kind }) origins c.in-Some.origin
    c.next.new.self c.targets_at_once.result split c.targets_at_once.ensures in
    record {
      counted = omega (arith, first, c.count_ways-total.ensures.count c.in-Some.origin, c.loop-origin.invariant.counted);
      men = others_of_kind p c.args.kind origins c.in-Some.origin c.next.new.self split c.loop-origin.invariant.men;
    }

pub returns-clause-count : goal.returns-clause-count
returns-clause-count c =
    omega (
      arith,
      c.loop-origin.invariant.counted,
      ap length (ap (moves_of_men c.args.info.now.position.now) (no_members c.loop-origin.origin-iterator c.in-None.ensures.steps.0)),
    )

pub returns-clause-few : goal.returns-clause-few
returns-clause-few c = omega (
  arith,
  c.loop-origin.invariant.counted,
  few_of_kind c.args.info.now.position.now c.args.kind c.args.men
      c.args.info.now.own c.requires.info.sound c.requires.info.own c.requires.men,
)
