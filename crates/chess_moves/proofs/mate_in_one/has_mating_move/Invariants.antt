use Rattle.std.proofs.Common.{◌≡◌}
use Rattle.std.specs.List.{list_any}
use Rattle.std.specs.Option.{IfSome}
use Rattle.square_sets.specs.Members.{members}
use Rattle.chess_board.specs.MakeMove.{after_setup}
use Rattle.chess_moves.specs.inside.Flights.{AreFlightsOf}
use Rattle.chess_moves.specs.inside.Listing.{legal_moves}
use Rattle.chess_moves.specs.inside.MoveGeneration.{moves_of_men, HaveOwnMen}
use Rattle.chess_moves.specs.Verdicts.{is_mate}
use Rattle.chess_moves.proofs.mate_in_one.has_mating_move.Given as goal

-- no man so far mates
abbrev pub invariant-loop-origin : goal.invariant-loop-origin
invariant-loop-origin l = record {
  any : list_any (λ m. is_mate (after_setup l.info.position.now m)) (moves_of_men l.info.position.now (members l.origin-iterator))
      ≡ list_any (λ m. is_mate (after_setup l.info.position.now m)) (legal_moves l.info.position.now);
  own : HaveOwnMen l.origin-iterator l.info.position.now;
  flights : IfSome l.flights (λ f. AreFlightsOf f l.info.position.now);
}
