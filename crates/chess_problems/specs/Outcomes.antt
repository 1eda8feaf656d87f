-- Which outcomes can be played.
use Rattle.std.specs.Prelude.{List, [], ◌∷◌, Contains}
use Rattle.chess_board.specs.Positions.{Setup}
use Rattle.chess_board.specs.Moves.{Move}
use Rattle.chess_moves.specs.inside.Listing.{legal_moves}
use Rattle.chess_moves.specs.Laws.{IsLine}
use Rattle.chess_problems.specs.declared.outcomes.Outcome.{Outcome}
use Rattle.chess_problems.specs.declared.outcomes.Outcome.TheVariants.{Mate, NoMate}

-- Each of the moves is legal in the position.
abbrev pub AreLegal : Setup → List Move → Type 0
AreLegal p [] = Unit {0}
AreLegal p (m ∷ ms) = Contains (legal_moves p) m × AreLegal p ms

-- The keys can be played in the position, and the moves of the line one after the other from it.
unfoldable pub IsPlayable : Setup → Outcome → Type 0
IsPlayable p (Mate dm keys pv) = AreLegal p keys.items × IsLine p pv.items
IsPlayable p NoMate = Unit {0}
