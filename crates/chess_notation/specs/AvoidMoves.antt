-- Moves to avoid, which the operands of `am` name (PGN Specification, section 16.2.5): each is the text of a legal move, with
-- its suffix or without it. That the suffix may be left out or be wrong is own to this project.
use Rattle.std.specs.Prelude.{ℕ, ◌-◌, ◌==◌, List, filter, length, take, slice_index, Bool, ◌||◌, if◌then◌else◌}
use Rattle.std.specs.List.{list_any}
use Rattle.chess_board.specs.Characters.{char}
use Rattle.chess_board.specs.Positions.{Setup}
use Rattle.chess_board.specs.Moves.{Move}
use Rattle.chess_moves.specs.inside.Listing.{legal_moves}
use Rattle.chess_notation.specs.Opcodes.{same_text}
use Rattle.chess_notation.specs.SanText.{bare_text}

-- the suffix that tells of a check or of mate
abbrev pub is_suffix : ℕ → Bool
is_suffix b = (b == char "+") || (b == char "#")

-- a word without one suffix at its end
unfoldable pub without_suffix : List ℕ → List ℕ
without_suffix word = if is_suffix (slice_index word (length word - 1)) then take (length word - 1) word else word

-- Without its suffix the word is the text of the move without its own.
abbrev pub names : Setup → List ℕ → Move → Bool
names p word m = same_text (without_suffix word) (bare_text p m)

-- The word names a legal move.
unfoldable pub is_name : Setup → List ℕ → Bool
is_name p word = list_any (names p word) (legal_moves p)

-- the legal moves that the words name, in the order of moves
unfoldable pub named : Setup → List (List ℕ) → List Move
named p words = filter (λ m. list_any (λ word. names p word m) words) (legal_moves p)
