-- Not for believing: attack, told by directions and leaps: the same as `chess_board`'s, in the form that sets of squares serve.
use Rattle.std.specs.Prelude.{ℕ, Bool, false, ◌&&◌, ◌||◌, List, Option, None, Some, is_some}
use Rattle.chess_board.specs.declared.men.Colour.{Colour}
use Rattle.chess_board.specs.declared.men.Kind.{Kind}
use Rattle.chess_board.specs.declared.men.Kind.TheVariants.{Pawn, Knight, Bishop, Rook, Queen, King}
use Rattle.chess_board.specs.declared.men.Man.{Man}
use Rattle.chess_board.specs.Squares.{some_square}
use Rattle.chess_board.specs.Men.{is_colour}
use Rattle.chess_board.specs.Positions.{man_at}
use Rattle.chess_moves.specs.declared.directions.Leap.TheVariants.{KnightLeap, KingStep}
use Rattle.chess_moves.specs.inside.Directions.{reaches_as_bishop, reaches_as_rook}
use Rattle.chess_moves.specs.inside.Leaps.{leaps, capture_of}

-- a man stands on the square
abbrev pub is_taken : List (Option Man) → ℕ → Bool
is_taken men square = is_some (man_at men square)

-- A man of this colour and kind on a attacks b, where these squares are taken.
abbrev pub hits_as : (ℕ → Bool) → Colour → Kind → ℕ → ℕ → Bool
hits_as taken colour Pawn a b = leaps (capture_of colour) a b
hits_as taken colour Knight a b = leaps KnightLeap a b
hits_as taken colour Bishop a b = reaches_as_bishop taken a b
hits_as taken colour Rook a b = reaches_as_rook taken a b
hits_as taken colour Queen a b = reaches_as_bishop taken a b || reaches_as_rook taken a b
hits_as taken colour King a b = leaps KingStep a b

-- this man, or none, is of the colour and attacks b from a
abbrev pub place_hits : (ℕ → Bool) → Colour → Option Man → ℕ → ℕ → Bool
place_hits taken by None a b = false
place_hits taken by (Some man) a b = is_colour by man.colour && hits_as taken by man.kind a b

-- a man of the colour stands on a and attacks b
abbrev pub hits_from : List (Option Man) → Colour → ℕ → ℕ → Bool
hits_from men by a b = place_hits (λ s. is_taken men s) by (man_at men a) a b

-- Some man of the colour attacks the square.
unfoldable pub is_hit : List (Option Man) → ℕ → Colour → Bool
is_hit men square by = some_square (λ a. hits_from men by a square)
