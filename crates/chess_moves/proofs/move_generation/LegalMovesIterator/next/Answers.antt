use Rattle.std.proofs.Common.{◌≡◌, ℕ, ◌++◌, [], sym, ap, ◌∙◌, arith, length}
use Rattle.square_sets.specs.Members.{members}
use Rattle.chess_moves.specs.inside.MoveGeneration.{moves_left, moves_of_men}
use Rattle.chess_moves.proofs.Members.{no_members}
use Rattle.chess_moves.proofs.Walks.{no_moves, first_man, own_others}
use Rattle.chess_moves.proofs.move_generation.LegalMovesIterator.next.Goals as goal

pub returns-in_err-origin-clause-steps : goal.returns-in_err-origin-clause-steps
returns-in_err-origin-clause-steps c =
    let now = c.loop-self.self-inside in
    let done = c.in_err-origin.ensures.steps in
    let none : moves_left now ≡ [] = rw (no_members now.turn.targets c.loop-self-test.true, no_members now.origins done.0) in
    rw c.from_residual.ensures (
      sym c.loop-self.invariant.left ∙ none,
      rw (no_members now.turn.targets c.loop-self-test.true, no_members c.next.new.self done.1),
    )

pub moves_of_man-self-inside-requires-clause-own : goal.moves_of_man-self-inside-requires-clause-own
moves_of_man-self-inside-requires-clause-own c =
    let lowest = c.in_ok-origin.ensures.steps.lowest in
    c.loop-self.invariant.way.origins c.in_ok-origin.origin lowest.on_board lowest.there

pub loop-self-smaller : goal.loop-self-smaller
loop-self-smaller c = omega (arith, ap length c.in_ok-origin.ensures.steps.rising)

pub loop-self-preserved : goal.loop-self-preserved
loop-self-preserved c =
    let now = c.loop-self.self-inside in
    let p = now.info.position.now in
    let split = c.in_ok-origin.ensures.steps in
    let left : ℕ = c.next.new.self in
    let rest = moves_of_men p (members left) in
    record {
      way = record {
        info = c.loop-self.invariant.way.info;
        origins = own_others p now.origins c.in_ok-origin.origin left split c.loop-self.invariant.way.origins;
        on_board = c.moves_of_man-self-inside.ensures.on_board;
      };
      left = ap (λ ms. ms ++ rest) c.moves_of_man-self-inside.ensures.moves
          ∙ sym (first_man p now.origins c.in_ok-origin.origin left split)
          ∙ ap (λ ms. ms ++ moves_of_men p (members now.origins))
          (sym (no_moves now.turn.promotion now.turn.mover.man now.turn.mover.origin now.turn.targets c.loop-self-test.true))
          ∙ c.loop-self.invariant.left;
    }
