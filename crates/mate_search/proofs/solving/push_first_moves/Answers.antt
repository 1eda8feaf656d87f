use Rattle.std.proofs.Common.{length, ap, ◌∙◌, arith}
use Rattle.chess_problems.specs.Problems.{ProblemValue}
use Rattle.chess_moves.specs.inside.Listing.{legal_moves}
use Rattle.mate_search.specs.inside.Truth.{first_moves}
use Rattle.mate_search.proofs.solving.push_first_moves.Goals as goal

pub push-requires : goal.push-requires
push-requires c = (omega arith, omega (arith, c.loop-m.invariant.few, ap length c.in-Some.ensures.steps))

pub loop-m-init : goal.loop-m-init
unfolding first_moves
loop-m-init c =
    let moves = c.into_iter-m-iterator.ensures.into_iter_gives ∙ c.legal_moves-m-items.ensures.moves
    ∙ ap (λ (q : ProblemValue). legal_moves q.position) c.problem.view_is in
    record {
      kept = rw (c.requires, moves);
      few = omega (arith, ap length c.requires, ap length c.into_iter-m-iterator.ensures.into_iter_gives, c.legal_moves-m-items.ensures.few);
    }
