use Rattle.std.proofs.Common.{◌++◌, List, filter, length, sym, ap, ◌∙◌, arith, append-nil, length-append, append_assoc}
use Rattle.square_sets.specs.Members.{members}
use Rattle.chess_board.specs.MakeMove.{after_setup}
use Rattle.chess_board.specs.Moves.{Move}
use Rattle.chess_moves.specs.Verdicts.{is_mate, mating_moves}
use Rattle.chess_moves.specs.inside.MateInOne.{mates_of}
use Rattle.chess_moves.specs.inside.MoveGeneration.{moves_of_men}
use Rattle.chess_moves.proofs.MatingMoves.{first_mates, mates_of_men, few_mates}
use Rattle.chess_moves.proofs.Members.{no_members}
use Rattle.chess_moves.proofs.MatingMen.{own_some}
use Rattle.chess_moves.proofs.Walks.{own_others}
use Rattle.chess_moves.proofs.mating_moves.push_mating_moves.Goals as goal

pub loop-origin-init : goal.loop-origin-init
loop-origin-init c =
    let p = c.bare_info_of-info.result.position.now in
    let info = c.bare_info_of-info in
    let start = c.into_iter-origin-iterator.ensures.into_iter_gives ∙ c.squares-origin-items.ensures in
    record {
      kept = rw (c.requires, start) (mates_of_men p c.mating_men.result info.result.own info.ensures.info.own c.mating_men.ensures);
      own = rw start (own_some p c.mating_men.result info.result.own info.ensures.info.own);
      flights = cc;
    }

pub push_mates_of-requires-clause-room : goal.push_mates_of-requires-clause-room
push_mates_of-requires-clause-room c =
    let p = c.bare_info_of-info.result.position.now in
    let o = c.in-Some.origin in
    let rest = filter (λ m. is_mate (after_setup p m)) (moves_of_men p (members c.next.new.self)) in
    let parts = first_mates p c.loop-origin.origin-iterator o c.next.new.self c.in-Some.ensures.steps in
    let all = ap length (sym (ap (λ (ms : List Move). c.loop-origin.out.items ++ ms) parts) ∙ c.loop-origin.invariant.kept) in
    omega (
      arith,
      all,
      ap (λ o. length (mates_of p o)) c.mover_on-mover.ensures.origin,
      few_mates p c.bare_info_of-info.ensures.info.sound,
      length-append c.loop-origin.out.items (mates_of p o ++ rest),
      length-append (mates_of p o) rest,
    )

pub loop-origin-preserved : goal.loop-origin-preserved
loop-origin-preserved c =
    let p = c.bare_info_of-info.result.position.now in
    let o = c.in-Some.origin in
    let rest = filter (λ m. is_mate (after_setup p m)) (moves_of_men p (members c.next.new.self)) in
    let parts = first_mates p c.loop-origin.origin-iterator o c.next.new.self c.in-Some.ensures.steps in
    record {
      kept = ap (λ (ms : List Move). ms ++ rest) (rw c.mover_on-mover.ensures.origin at c.push_mates_of.ensures.mates)
          ∙ append_assoc c.loop-origin.out.items (mates_of p o) rest
          ∙ sym (ap (λ (ms : List Move). c.loop-origin.out.items ++ ms) parts)
          ∙ c.loop-origin.invariant.kept;
      own = own_others p c.loop-origin.origin-iterator o c.next.new.self c.in-Some.ensures.steps c.loop-origin.invariant.own;
      flights = c.push_mates_of.ensures.flights;
    }

pub returns : goal.returns
returns c =
    let p = c.bare_info_of-info.result.position.now in
    let mates = λ (m : Move). is_mate (after_setup p m) in
    sym (append-nil c.loop-origin.out.items)
    ∙ ap (λ (ms : List Move). c.loop-origin.out.items ++ filter mates ms)
    (sym (ap (moves_of_men p) (no_members c.loop-origin.origin-iterator c.in-None.ensures.steps.0)))
    ∙ c.loop-origin.invariant.kept
    ∙ ap mating_moves c.bare_info_of-info.ensures.position

pub mover_on-mover-requires-clause-on_board : goal.mover_on-mover-requires-clause-on_board
mover_on-mover-requires-clause-on_board c = c.in-Some.ensures.steps.lowest.on_board

pub mover_on-mover-requires-clause-own : goal.mover_on-mover-requires-clause-own
mover_on-mover-requires-clause-own c =
    let lowest = c.in-Some.ensures.steps.lowest in
    c.loop-origin.invariant.own c.in-Some.origin lowest.on_board lowest.there

pub loop-origin-smaller : goal.loop-origin-smaller
loop-origin-smaller c = omega (arith, ap length c.in-Some.ensures.steps.rising)
