use Rattle.std.proofs.Common.{◌≡◌, ℕ, ◌<◌, true, false}
use Rattle.square_sets.specs.Members.{has}
use Rattle.chess_board.specs.MakeMove.{after_setup}
use Rattle.chess_board.specs.Legality.{is_legal}
use Rattle.chess_board.specs.Moves.{Move}
use Rattle.chess_moves.specs.Verdicts.{is_mate}
use Rattle.chess_moves.proofs.flights.squares_that_cover.Given as goal

-- moves to the squares that were dropped do not mate, and what is left are flights
abbrev pub invariant-loop-flight : goal.invariant-loop-flight
invariant-loop-flight l = record {
  dropped : (m : Move) → is_legal l.info.position.now m ≡ true → m.origin ≡ l.mover.origin → m.target < 64
      → has l.candidates m.target ≡ true → has l.covering m.target ≡ false
      → is_mate (after_setup l.info.position.now m) ≡ false;
  left : (s : ℕ) → s < 64 → has l.flight-iterator s ≡ true → has l.flights.squares s ≡ true;
}
