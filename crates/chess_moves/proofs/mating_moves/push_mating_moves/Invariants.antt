use Rattle.std.proofs.Common.{◌≡◌, ◌++◌, filter}
use Rattle.std.specs.Option.{IfSome}
use Rattle.square_sets.specs.Members.{members}
use Rattle.chess_board.specs.MakeMove.{after_setup}
use Rattle.chess_moves.specs.inside.Flights.{AreFlightsOf}
use Rattle.chess_moves.specs.inside.MoveGeneration.{moves_of_men, HaveOwnMen}
use Rattle.chess_moves.specs.Verdicts.{is_mate, mating_moves}
use Rattle.chess_moves.proofs.mating_moves.push_mating_moves.Given as goal

-- those listed, and those of the men that are still to come
abbrev pub invariant-loop-origin : goal.invariant-loop-origin
invariant-loop-origin l = record {
  kept : l.out.items ++ filter (λ m. is_mate (after_setup l.info.position.now m)) (moves_of_men l.info.position.now (members l.origin-iterator)) ≡ mating_moves l.info.position.now;
  own : HaveOwnMen l.origin-iterator l.info.position.now;
  flights : IfSome l.flights (λ f. AreFlightsOf f l.info.position.now);
}
