use Rattle.std.proofs.Common.{◌≡◌, ◌-◌, ◌^◌, sym, ap, ◌∙◌, arith, length}
use Rattle.chess_moves.specs.inside.Listing.{legal_moves}
use Rattle.std.specs.List.{sum_by}
use Rattle.std.proofs.lemmas.List.Sums.{sum_by-cons}
use Rattle.chess_board.specs.Legality.{is_legal}
use Rattle.chess_board.specs.MakeMove.{after_setup}
use Rattle.chess_board.specs.Moves.{Move}
use Rattle.chess_moves.specs.Plays.{plays}
use Rattle.chess_moves.proofs.KeptMoves.{all_first, all_others}
use Rattle.chess_moves.proofs.Listed.{all_legal}
use Rattle.chess_moves.proofs.Counts.{plays_of_one, plays_step, pow_step, pow_fits, one_of, times_grow}
use Rattle.chess_moves.proofs.perft_count.+count_plays.Goals as goal

pub returns-then-depth-eq1-clause-count : goal.returns-then-depth-eq1-clause-count
returns-then-depth-eq1-clause-count t c = c.count_moves.ensures.count ∙ sym (plays_of_one c.args.position.now c.args.depth c.if-depth-eq1.true)

pub returns-then-depth-eq1-clause-few : goal.returns-then-depth-eq1-clause-few
returns-then-depth-eq1-clause-few t c = rw c.if-depth-eq1.true c.count_moves.ensures.few

pub loop-m-init : goal.loop-m-init
loop-m-init t c =
    let p = c.args.position.now in
    let moves : c.into_iter-m-iterator.result ≡ legal_moves p =
    c.into_iter-m-iterator.ensures.into_iter_gives ∙ c.legal_moves-m-items.ensures.moves in
    record {
      counted = rw moves (omega (arith, plays_step p c.args.depth (omega arith)));
      few = rw c.into_iter-m-iterator.ensures.into_iter_gives (omega (
        arith,
        times_grow (length c.legal_moves-m-items.result) 1024 (1024 ^ (c.args.depth - 1)) c.legal_moves-m-items.ensures.few,
      ));
      legal = rw moves (all_legal p);
    }

pub overflow_add-total : goal.overflow_add-total
overflow_add-total t c =
    let step = one_of (length c.loop-m.m-iterator) (length c.next.new.self) (1024 ^ (c.args.depth - 1)) (ap length c.in-Some.ensures.steps) in
    omega (
      arith,
      step,
      pow_step c.args.depth (omega arith),
      pow_fits c.args.depth (omega arith),
      c.count_plays-total.ensures.few,
      c.loop-m.invariant.few,
    )

pub after-requires : goal.after-requires
after-requires t c =
    all_first (is_legal c.args.position.now) c.in-Some.m c.loop-m.m-iterator c.next.new.self c.in-Some.ensures.steps c.loop-m.invariant.legal

pub loop-m-preserved : goal.loop-m-preserved
loop-m-preserved t c =
    let p = c.args.position.now in
    let m = c.in-Some.m in
    let left = c.next.new.self in
    let behind = λ (m : Move). length (plays (after_setup p m) (c.args.depth - 1)) in
    let counted = c.count_plays-total.ensures.count ∙ ap (λ after. length (plays after (c.args.depth - 1))) c.after.ensures in
    let sum = ap (sum_by behind) c.in-Some.ensures.steps ∙ sum_by-cons behind m left in
    let step = one_of (length c.loop-m.m-iterator) (length left) (1024 ^ (c.args.depth - 1)) (ap length c.in-Some.ensures.steps) in
    record {
      counted = omega (arith, c.loop-m.invariant.counted, counted, sum);
      few = omega (arith, step, c.count_plays-total.ensures.few, c.loop-m.invariant.few);
      legal = all_others (is_legal p) m c.loop-m.m-iterator left c.in-Some.ensures.steps c.loop-m.invariant.legal;
    }
