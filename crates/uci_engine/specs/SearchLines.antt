-- What an engine writes of a search (UCI, April 2006: `info`, `bestmove`). No contract of a public call rests on it yet.
use Rattle.std.specs.Prelude.{◌≡◌, ◌≢◌, ◌-◌, ◌<◌, ◌≤◌, ℕ, ◌*◌, List, [], ◌∷◌, ◌++◌, ◌==◌, codes, decimal, Option, Some, None, if◌then◌else◌}
use Rattle.chess_board.specs.Characters.{char}
use Rattle.chess_board.specs.Moves.{Move, move_text}
use Rattle.chess_moves.specs.Verdicts.{verdict_of}
use Rattle.chess_moves.specs.declared.verdicts.Verdict.{Verdict}
use Rattle.chess_moves.specs.declared.verdicts.Verdict.TheVariants.{Play, Stalemate, Mate as Mated}
use Rattle.chess_problems.specs.Problems.{ProblemValue}
use Rattle.chess_problems.specs.declared.outcomes.Outcome.{Outcome}
use Rattle.chess_problems.specs.declared.outcomes.Outcome.TheVariants.{Mate, NoMate}
use Rattle.mate_search.specs.inside.Truth.{truth}
use Rattle.uci_commands.specs.MoveSearches.{all_but}

-- moves by their coordinates, each behind a space
abbrev pub moves_text : List Move → List ℕ
moves_text [] = []
moves_text (m ∷ ms) = char " " ∷ move_text m ++ moves_text ms

-- It says what a search has cost: positions, milliseconds, and positions a second.
unfoldable pub IsCosts : List ℕ → Type 0
IsCosts text = (nodes time rate : ℕ)
    × (text ≡ codes " nodes " ++ decimal nodes ++ codes " time " ++ decimal time ++ codes " nps " ++ decimal rate)

-- how deep a mate in so many moves is, in halfmoves
abbrev pub depth_of : ℕ → ℕ
depth_of moves = 2 * moves - 1

-- The line of a mate in so many moves, the so-many-th of those that are shown, by this line of play.
unfoldable pub IsMateLine : (moves rank : ℕ) → List Move → List ℕ → Type 0
IsMateLine moves rank pv text = (costs : List ℕ) × IsCosts costs × (text ≡ codes "info depth " ++ decimal (depth_of moves)
    ++ codes " multipv " ++ decimal rank ++ codes " score mate " ++ decimal moves ++ costs ++ codes " pv" ++ moves_text pv ++ char "\n" ∷ [])

-- The line of a length that was searched without a mate.
unfoldable pub IsLengthLine : (moves : ℕ) → List ℕ → Type 0
IsLengthLine moves text = (costs : List ℕ) × IsCosts costs × (text ≡ codes "info depth " ++ decimal (depth_of moves) ++ costs ++ char "\n" ∷ [])

-- the line that says what to play, where there is a move
abbrev pub best_text : Option Move → List ℕ
best_text (Some m) = codes "bestmove " ++ move_text m ++ char "\n" ∷ []
best_text None = codes "bestmove 0000\n"

-- the line that says that there is no mate in so many moves, or of none that nothing was decided
abbrev pub none_text : ℕ → List ℕ
none_text n = if n == 0 then codes "info string not decided\n" else codes "info string no mate in " ++ decimal n ++ char "\n" ∷ []

-- the score of a position that ends the game, of mate or of stalemate; none of another
abbrev pub terminal_text : Verdict → Option (List ℕ)
terminal_text Play = None
terminal_text Mated = Some (codes "info depth 0 score mate 0\n")
terminal_text Stalemate = Some (codes "info depth 0 score cp 0\n")

-- the problem within so many moves
abbrev pub within : ProblemValue → ℕ → ProblemValue
within q n = record { position = q.position; bound = n; avoid = q.avoid }

-- There is no mate within any number of moves up to this one.
abbrev pub HasNone : ProblemValue → ℕ → Type 0
HasNone q n = (k : ℕ) → 0 < k → k ≤ n → truth (within q k) ≡ NoMate

-- what ends a search that found no mate in so many moves
abbrev pub none_end : ℕ → Option Move → List ℕ
none_end n None = best_text None
none_end n (Some m) = none_text n ++ best_text (Some m)

abbrev pub first_of : List Move → Option Move
first_of [] = None
first_of (m ∷ ms) = Some m

abbrev pub first_key : Outcome → Option Move
first_key (Mate dm keys pv) = first_of keys.items
first_key NoMate = None

-- What ends a search for a mate in one move, two and so on: what to play is the first key of the shortest mate within the bound; or there is
-- none in as many moves as are told.
pub data IsEnd (q : ProblemValue) : List ℕ → Type 0 where
  mates : (n : ℕ) → n ≤ q.bound → HasNone q (n - 1) → truth (within q n) ≢ NoMate → IsEnd q (best_text (first_key (truth (within q n))))
  not_found : (n : ℕ) (best : Option Move) → n ≤ q.bound → HasNone q n → IsEnd q (none_end n best)

-- The text goes on with that.
abbrev pub EndsWith : ProblemValue → (old new : List ℕ) → Type 0
EndsWith q old new = (text : List ℕ) × IsEnd q text × (new ≡ old ++ text)

abbrev pub line_of : Outcome → List Move
line_of (Mate dm keys pv) = pv.items
line_of NoMate = []

-- The lines of some keys within so many moves: of each the so-many-th line, by the line of play that there is to say of it alone.
pub data AreKeyLines (q : ProblemValue) : List ℕ → Type 0 where
  none : AreKeyLines q []
  more : (rank : ℕ) (key : Move) (text line : List ℕ) → AreKeyLines q text
      → IsMateLine q.bound rank (line_of (truth (record { position = q.position; bound = q.bound; avoid = all_but q.position (key ∷ []) }))) line
      → AreKeyLines q (text ++ line)

-- A mate in so many moves, and none in fewer.
abbrev pub IsShortest : ProblemValue → ℕ → Type 0
IsShortest q n = HasNone q (n - 1) × (truth (within q n) ≢ NoMate)

-- What may be written while a search goes on: how deep there is no mate; the line of the shortest; those of its other keys; or how the game
-- has ended.
pub data IsSaid (q : ProblemValue) : List ℕ → Type 0 where
  of_length : (n : ℕ) (text : List ℕ) → HasNone q n → IsLengthLine n text → IsSaid q text
  of_first : (n : ℕ) (text : List ℕ) → IsShortest q n → IsMateLine n 1 (line_of (truth (within q n))) text → IsSaid q text
  of_keys : (n : ℕ) (text : List ℕ) → IsShortest q n → AreKeyLines (within q n) text → IsSaid q text
  of_terminal : (text : List ℕ) → terminal_text (verdict_of q.position) ≡ Some text → IsSaid q text
