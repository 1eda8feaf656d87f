-- Not for believing: the targets of a man's legal moves, as a set of squares.
use Rattle.std.specs.Prelude.{◌≡◌, ℕ, Bool, ◌<◌, List, [], ◌∷◌, filter, None, if◌then◌else◌}
use Rattle.square_sets.specs.Members.{has}
use Rattle.chess_board.specs.declared.men.Man.{Man}
use Rattle.chess_board.specs.Positions.{Setup}
use Rattle.chess_board.specs.Moves.{Move}
use Rattle.chess_board.specs.PseudoLegal.{promotes}
use Rattle.chess_board.specs.Legality.{is_legal}
use Rattle.chess_moves.specs.inside.Listing.{move_of, promotions, moves_between}

-- the moves of a man from one square to another: four where it is promoted, else one
abbrev pub ways : Man → ℕ → ℕ → List Move
ways man origin target = if promotes man target then promotions origin target else (move_of origin target None ∷ [])

-- All the man's ways from one square to another are legal, or none is.
abbrev pub IsTarget : Bool → Setup → Man → ℕ → ℕ → Type 0
IsTarget is p man origin target = filter (is_legal p) (moves_between origin target) ≡ (if is then ways man origin target else [])

-- The set has exactly the targets of the man's legal moves from the origin.
abbrev pub AreTargets : ℕ → Setup → Man → ℕ → Type 0
AreTargets set p man origin = (t : ℕ) → t < 64 → IsTarget (has set t) p man origin t
