-- Not for believing: the defender's replies, those of its king and those of its other men.
use Rattle.std.specs.Prelude.{ℕ, ◌==◌, Bool, not, ◌&&◌, List, filter, Option}
use Rattle.std.specs.List.{list_all}
use Rattle.std.specs.Int.{bit_at}
use Rattle.chess_board.specs.declared.men.Colour.{Colour}
use Rattle.chess_board.specs.declared.men.Kind.TheVariants.{King}
use Rattle.chess_board.specs.declared.men.Man.{Man}
use Rattle.chess_board.specs.Men.{is_of, is_man}
use Rattle.chess_board.specs.Positions.{Setup}
use Rattle.chess_board.specs.Moves.{Move}
use Rattle.chess_board.specs.MakeMove.{after_setup}
use Rattle.chess_moves.specs.inside.Listing.{legal_moves}
use Rattle.mate_search.specs.Wins.{win}

-- Whether a man of this side that is no king stands there.
abbrev pub is_but_king : Colour → Option Man → Bool
is_but_king side place = is_of side place && not (is_man side King place)

-- The move is of a man on one of these squares.
abbrev pub is_from : ℕ → Move → Bool
is_from men r = bit_at men r.origin == 1

-- the legal moves of the men on these squares
abbrev pub moves_of : ℕ → Setup → List Move
moves_of men q = filter (is_from men) (legal_moves q)

-- The attacker mates within k moves after each reply of these men.
abbrev pub each_loses : ℕ → ℕ → Setup → Bool
each_loses men k q = list_all (λ r. win k (after_setup q r)) (moves_of men q)
