-- The fields of a record, taken off from its line: the first four of a FEN, the text of the operations behind them, its segments, and
-- what a segment shows.
use Rattle.std.specs.Prelude.{ℕ, ◌&&◌, nat_le, List, length, Bool, not, if◌then◌else◌}
use Rattle.std.specs.List.{list_all}
use Rattle.chess_board.specs.Fens.{Fields}
use Rattle.chess_notation.specs.Words.{word_at, behind, is_empty_text}
use Rattle.chess_notation.specs.Segments.{Segments, segments_of}
use Rattle.chess_notation.specs.Operations.{Entry, is_digit}
use Rattle.chess_notation.specs.Quoting.{squeezed_from}
use Rattle.chess_notation.specs.declared.quoting.Mode.TheVariants.{Plain}

-- digits, one at least
abbrev pub is_number : List ℕ → Bool
is_number word = not (is_empty_text word) && list_all is_digit word

-- one to four digits
abbrev pub is_counter : List ℕ → Bool
is_counter word = is_number word && nat_le (length word) 4

unfoldable pub fourth_word : List ℕ → List ℕ
fourth_word line = word_at (behind (behind (behind line)))

-- the first four words
unfoldable pub line_fields : List ℕ → Fields
line_fields line = record {
  placement = word_at line;
  side = word_at (behind line);
  castling = word_at (behind (behind line));
  target = fourth_word line;
}

-- what follows the four fields
unfoldable pub behind_fields : List ℕ → List ℕ
behind_fields line = behind (behind (behind (behind line)))

-- Two counters are passed over.
unfoldable pub behind_counters : List ℕ → List ℕ
behind_counters text = if is_counter (word_at text) && is_counter (word_at (behind text)) then behind (behind text) else text

unfoldable pub operations_in : List ℕ → List ℕ
operations_in line = behind_counters (behind_fields line)

-- the operations of a line, cut at their semicolons
unfoldable pub cut_of : List ℕ → Segments
cut_of line = segments_of (operations_in line)

-- the entry that a segment shows
abbrev pub entry_in : List ℕ → Entry
entry_in segment = record { opcode = word_at segment; operands = squeezed_from Plain (behind segment) }
