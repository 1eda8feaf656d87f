-- Not for believing: how the list of the legal moves is put together. `LegalListed` and `LegalRise` say which moves it has and in
-- which order (FIDE Laws of Chess, article 3.10.1).
use Rattle.std.specs.Prelude.{ℕ, zero, suc, List, [], ◌∷◌, ◌++◌, filter, Option, Some, None}
use Rattle.chess_board.specs.declared.men.Kind.{Kind}
use Rattle.chess_board.specs.declared.men.Kind.TheVariants.{Knight, Bishop, Rook, Queen}
use Rattle.chess_board.specs.Positions.{Setup}
use Rattle.chess_board.specs.Moves.{Move}
use Rattle.chess_board.specs.Legality.{is_legal}

abbrev pub move_of : ℕ → ℕ → Option Kind → Move
move_of origin target promotion = record { origin = origin; target = target; promotion = promotion }

-- the four moves that promote a pawn
abbrev pub promotions : ℕ → ℕ → List Move
promotions origin target =
    move_of origin target (Some Knight) ∷ move_of origin target (Some Bishop)
    ∷ move_of origin target (Some Rook) ∷ move_of origin target (Some Queen) ∷ []

-- the moves from one square to another
unfoldable pub moves_between : ℕ → ℕ → List Move
moves_between origin target = move_of origin target None ∷ promotions origin target

-- the moves from one square to the squares below n
unfoldable pub moves_to : ℕ → ℕ → List Move
moves_to origin zero = []
moves_to origin (suc n) = moves_to origin n ++ moves_between origin n

-- the moves from the squares below n
unfoldable pub moves_below : ℕ → List Move
moves_below zero = []
moves_below (suc n) = moves_below n ++ moves_to n 64

-- the moves of the board that are legal in this position
unfoldable pub legal_moves : Setup → List Move
legal_moves p = filter (is_legal p) (moves_below 64)
