-- Not for believing: mate in one, told man by man.
use Rattle.std.specs.Prelude.{ℕ, Bool, List, filter}
use Rattle.std.specs.List.{list_any}
use Rattle.chess_board.specs.Positions.{Setup}
use Rattle.chess_board.specs.MakeMove.{after_setup}
use Rattle.chess_board.specs.Legality.{is_legal}
use Rattle.chess_board.specs.Moves.{Move}
use Rattle.chess_moves.specs.inside.Listing.{moves_to}
use Rattle.chess_moves.specs.Verdicts.{is_mate}

-- A legal move from the square mates.
abbrev pub mates_from : Setup → ℕ → Bool
mates_from p o = list_any (λ m. is_mate (after_setup p m)) (filter (is_legal p) (moves_to o 64))

-- the legal moves from the square that mate
abbrev pub mates_of : Setup → ℕ → List Move
mates_of p o = filter (λ m. is_mate (after_setup p m)) (filter (is_legal p) (moves_to o 64))
