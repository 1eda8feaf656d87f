use Rattle.std.proofs.Common.{◌||◌, sym, ap, ◌∙◌, arith, filter, length}
use Rattle.std.specs.List.{list_any}
use Rattle.std.proofs.lemmas.List.Folds.{list_any-append}
use Rattle.square_sets.specs.Members.{members}
use Rattle.chess_board.specs.MakeMove.{after_setup}
use Rattle.chess_board.specs.Legality.{is_legal}
use Rattle.chess_moves.specs.inside.Listing.{moves_to}
use Rattle.chess_moves.specs.Verdicts.{is_mate, has_mating_move}
use Rattle.chess_moves.specs.inside.MoveGeneration.{moves_of_men}
use Rattle.chess_moves.proofs.Members.{no_members}
use Rattle.chess_moves.proofs.MatingMen.{mates_of_some, own_some}
use Rattle.chess_moves.proofs.Walks.{first_man, own_others}
use Rattle.chess_moves.proofs.mate_in_one.has_mating_move.Goals as goal

pub loop-origin-init : goal.loop-origin-init
loop-origin-init c =
    let p = c.bare_info_of-info.result.position.now in
    let h = c.bare_info_of-info.ensures.info in
    let start = c.into_iter-origin-iterator.ensures.into_iter_gives ∙ c.squares-origin-items.ensures in
    record {
      any = rw start (mates_of_some p c.mating_men.result c.bare_info_of-info.result.own h.own c.mating_men.ensures);
      own = rw start (own_some p c.mating_men.result c.bare_info_of-info.result.own h.own);
      flights = cc;
    }

pub returns-then-man_mates : goal.returns-then-man_mates
unfolding has_mating_move
returns-then-man_mates c =
    let p = c.bare_info_of-info.result.position.now in
    let o = c.in-Some.origin in
    let rest = c.next.new.self in
    let first = ap (list_any (λ m. is_mate (after_setup p m))) (first_man p c.loop-origin.origin-iterator o rest c.in-Some.ensures.steps)
    ∙ list_any-append (λ m. is_mate (after_setup p m)) (filter (is_legal p) (moves_to o 64)) (moves_of_men p (members rest)) in
    let found = sym (rw c.mover_on-mover.ensures.origin at c.man_mates.ensures.mates) ∙ c.if-man_mates.true in
    sym (sym c.loop-origin.invariant.any ∙ first ∙ ap (λ x. x || list_any (λ m. is_mate (after_setup p m)) (moves_of_men p (members rest))) found)
    ∙ ap has_mating_move c.bare_info_of-info.ensures.position

pub loop-origin-preserved : goal.loop-origin-preserved
loop-origin-preserved c =
    let p = c.bare_info_of-info.result.position.now in
    let o = c.in-Some.origin in
    let rest = c.next.new.self in
    let first = ap (list_any (λ m. is_mate (after_setup p m))) (first_man p c.loop-origin.origin-iterator o rest c.in-Some.ensures.steps)
    ∙ list_any-append (λ m. is_mate (after_setup p m)) (filter (is_legal p) (moves_to o 64)) (moves_of_men p (members rest)) in
    let none = sym (rw c.mover_on-mover.ensures.origin at c.man_mates.ensures.mates) ∙ c.if-man_mates.false in
    record {
      any = sym (ap (λ x. x || list_any (λ m. is_mate (after_setup p m)) (moves_of_men p (members rest))) none)
          ∙ sym first ∙ c.loop-origin.invariant.any;
      own = own_others p c.loop-origin.origin-iterator o rest c.in-Some.ensures.steps c.loop-origin.invariant.own;
      flights = c.man_mates.ensures.flights;
    }

pub returns : goal.returns
unfolding has_mating_move
returns c =
    let p = c.bare_info_of-info.result.position.now in
    sym (ap (list_any (λ m. is_mate (after_setup p m))) (ap (moves_of_men p)
    (no_members c.loop-origin.origin-iterator c.in-None.ensures.steps.0)))
    ∙ c.loop-origin.invariant.any ∙ ap has_mating_move c.bare_info_of-info.ensures.position

pub mover_on-mover-requires-clause-on_board : goal.mover_on-mover-requires-clause-on_board
mover_on-mover-requires-clause-on_board c = c.in-Some.ensures.steps.lowest.on_board

pub mover_on-mover-requires-clause-own : goal.mover_on-mover-requires-clause-own
mover_on-mover-requires-clause-own c =
    let lowest = c.in-Some.ensures.steps.lowest in
    c.loop-origin.invariant.own c.in-Some.origin lowest.on_board lowest.there

pub loop-origin-smaller : goal.loop-origin-smaller
loop-origin-smaller c = omega (arith, ap length c.in-Some.ensures.steps.rising)
