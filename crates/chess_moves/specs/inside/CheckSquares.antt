-- Not for believing: the squares from which the king of the side that is not to move is attacked.
use Rattle.std.specs.Prelude.{◌≡◌, ℕ, ◌<◌, Bool, ◌||◌, is_some}
use Rattle.square_sets.specs.Members.{has}
use Rattle.chess_board.specs.declared.men.Kind.{Kind}
use Rattle.chess_board.specs.declared.men.Kind.TheVariants.{Pawn, Knight, Bishop, Rook, Queen, King}
use Rattle.chess_board.specs.declared.men.Man.{Man}
use Rattle.chess_board.specs.Men.{other_side, man_of}
use Rattle.chess_board.specs.Positions.{Setup, man_at}
use Rattle.chess_board.specs.Moves.{Move}
use Rattle.chess_board.specs.Soundness.{IsSound}
use Rattle.chess_board.specs.EnPassant.{is_en_passant}
use Rattle.chess_board.specs.Castling.{is_castling}
use Rattle.chess_moves.specs.declared.check_squares.CheckSquares.{CheckSquares}
use Rattle.chess_moves.specs.inside.Hits.{is_taken, hits_as}

-- the set that is kept for a kind
abbrev pub squares_of : CheckSquares → Kind → ℕ
squares_of check_squares Pawn = check_squares.pawn
squares_of check_squares Knight = check_squares.knight
squares_of check_squares Bishop = check_squares.bishop
squares_of check_squares Rook = check_squares.rook
squares_of check_squares Queen = check_squares.queen
squares_of check_squares King = check_squares.king

-- The sets are the squares on which a man of the side to move would attack the other king, one set for each kind.
pub record AreCheckSquaresOf (check_squares : CheckSquares) (p : Setup) : Type 0 where
  pub square : ℕ  -- the king's
  pub on_board : square < 64
  pub there : man_at p.men square ≡ man_of (other_side p.side) King
  pub squares : (asked : Kind) (a : ℕ) → a < 64
      → has (squares_of check_squares asked) a ≡ hits_as (λ s. is_taken p.men s) p.side asked a square
  pub sound : IsSound p

-- The move does more than take its man from one square to another.
abbrev pub is_special : Setup → Man → Move → Bool
is_special p man m = is_some m.promotion || is_en_passant p man m || is_castling man m
