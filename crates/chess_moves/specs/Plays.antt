-- The lines of play: lists of legal moves played one after the other. Their number is known as perft.
use Rattle.std.specs.Prelude.{ℕ, zero, suc, List, [], ◌∷◌, map, flat_map}
use Rattle.chess_board.specs.Positions.{Setup}
use Rattle.chess_board.specs.Moves.{Move}
use Rattle.chess_board.specs.MakeMove.{after_setup}
use Rattle.chess_moves.specs.inside.Listing.{legal_moves}

-- the lines of so many moves, each legal where it is played
unfoldable pub plays : Setup → ℕ → List (List Move)
plays p zero = [] ∷ []
plays p (suc d) = flat_map (λ m. map (λ line. m ∷ line) (plays (after_setup p m) d)) (legal_moves p)
