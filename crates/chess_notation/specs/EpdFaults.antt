-- The faults of a line that says no record: what each of them is, their order, and how they are printed. Own to this project.
use Rattle.std.specs.Prelude.{◌≡◌, ◌≢◌, ℕ, ◌<◌, nat_le, nat_lt, List, [], ◌∷◌, ◌++◌, length, codes, Bool, true, false, not, ◌&&◌, ◌||◌}
use Rattle.std.specs.List.{list_all}
use Rattle.chess_board.specs.declared.faults.FenFault.TheVariants.{FieldCount}
use Rattle.chess_board.specs.Fields.{digits_value}
use Rattle.chess_board.specs.Faults.{IsFirst, field_faults, fault_name}
use Rattle.chess_board.specs.Positions.{Setup}
use Rattle.chess_board.specs.Fens.{SpellsSetup, IsAmiss}
use Rattle.chess_notation.specs.declared.epd_faults.EpdFault.{EpdFault}
use Rattle.chess_notation.specs.declared.epd_faults.EpdFault.TheVariants.{TooLong, NotPrintable, Fen, BadOpcode, BadString}
use Rattle.chess_notation.specs.declared.epd_faults.EpdFault.TheVariants.{MissingSemicolon, DoubleOpcode, BadBound, BoundTooLarge}
use Rattle.chess_notation.specs.declared.epd_faults.EpdFault.TheVariants.{BadAvoid, NoMemory}
use Rattle.chess_notation.specs.Words.{word_at, behind, is_blank, words_in}
use Rattle.chess_notation.specs.Segments.{Segments}
use Rattle.chess_notation.specs.Quoting.{strings_fit}
use Rattle.chess_notation.specs.Operations.{is_printable, is_opcode}
use Rattle.chess_notation.specs.Opcodes.{same_text}
use Rattle.chess_notation.specs.AvoidMoves.{is_name}
use Rattle.chess_problems.specs.Problems.{max_bound}
use Rattle.chess_notation.specs.Records.{max_line}
use Rattle.chess_notation.specs.RecordFields.{is_number, fourth_word, line_fields, cut_of}

-- A fault prints as its name; that of the fields as the word `Fen`, a space and the name of the FEN's fault.
abbrev pub epd_fault_name : EpdFault → List ℕ
epd_fault_name TooLong = codes "TooLong"
epd_fault_name NotPrintable = codes "NotPrintable"
epd_fault_name (Fen fault) = codes "Fen " ++ fault_name fault
epd_fault_name BadOpcode = codes "BadOpcode"
epd_fault_name BadString = codes "BadString"
epd_fault_name MissingSemicolon = codes "MissingSemicolon"
epd_fault_name DoubleOpcode = codes "DoubleOpcode"
epd_fault_name BadBound = codes "BadBound"
epd_fault_name BoundTooLarge = codes "BoundTooLarge"
epd_fault_name BadAvoid = codes "BadAvoid"
epd_fault_name NoMemory = codes "NoMemory"

-- the order in which they are answered
abbrev pub fault_number : EpdFault → ℕ
fault_number TooLong = 1
fault_number NotPrintable = 2
fault_number (Fen fault) = 3
fault_number BadOpcode = 4
fault_number BadString = 5
fault_number MissingSemicolon = 6
fault_number DoubleOpcode = 7
fault_number BadBound = 8
fault_number BoundTooLarge = 9
fault_number BadAvoid = 10
fault_number NoMemory = 11

-- each segment, and the rest unless it is blank
abbrev pub each_segment : (List ℕ → Bool) → Segments → Bool
each_segment test cut = list_all test cut.ended && (is_blank cut.rest || test cut.rest)

abbrev pub has_opcode : List ℕ → Bool
has_opcode segment = is_opcode (word_at segment)

-- The segment has another opcode.
abbrev pub differs_from : List ℕ → List ℕ → Bool
differs_from opcode segment = not (same_text opcode (word_at segment))

-- No two segments have one opcode.
abbrev pub are_distinct : List (List ℕ) → Bool
are_distinct [] = true
are_distinct (segment ∷ segments) = list_all (differs_from (word_at segment)) segments && are_distinct segments

abbrev pub is_bound_segment : List ℕ → Bool
is_bound_segment segment = same_text (codes "dm") (word_at segment)

-- Behind the opcode stand digits that are not all zeros, and nothing else.
abbrev pub has_number : List ℕ → Bool
has_number segment = is_number (word_at (behind segment)) && is_blank (behind (behind segment)) && nat_lt 0 (digits_value (word_at (behind segment)))

abbrev pub has_number_if_bound : List ℕ → Bool
has_number_if_bound segment = not (is_bound_segment segment) || has_number segment

abbrev pub is_small_if_bound : List ℕ → Bool
is_small_if_bound segment = not (is_bound_segment segment) || nat_le (digits_value (word_at (behind segment))) max_bound

abbrev pub is_avoid_segment : List ℕ → Bool
is_avoid_segment segment = same_text (codes "am") (word_at segment)

-- Words, at least one, each of which names a legal move.
abbrev pub are_names : Setup → List ℕ → Bool
are_names p text = not (is_blank text) && list_all (is_name p) (words_in text)

abbrev pub has_names_if_avoid : Setup → List ℕ → Bool
has_names_if_avoid p segment = not (is_avoid_segment segment) || are_names p (behind segment)

-- What is wrong with a line, fault by fault. Of the fields it is their first fault. Moves to avoid are asked about in the position
-- that the fields spell. Want of memory is no fault of a line.
abbrev pub IsAmissBy : List ℕ → EpdFault → Type 0
IsAmissBy line TooLong = max_line < length line
IsAmissBy line NotPrintable = list_all is_printable line ≡ false
IsAmissBy line (Fen FieldCount) = fourth_word line ≡ []
IsAmissBy line (Fen fault) = (fourth_word line ≢ []) × IsFirst (IsAmiss (line_fields line)) field_faults fault
IsAmissBy line BadOpcode = each_segment has_opcode (cut_of line) ≡ false
IsAmissBy line BadString = each_segment strings_fit (cut_of line) ≡ false
IsAmissBy line MissingSemicolon = is_blank (cut_of line).rest ≡ false
IsAmissBy line DoubleOpcode = are_distinct (cut_of line).ended ≡ false
IsAmissBy line BadBound = list_all has_number_if_bound (cut_of line).ended ≡ false
IsAmissBy line BoundTooLarge = list_all is_small_if_bound (cut_of line).ended ≡ false
IsAmissBy line BadAvoid = (p : Setup) × SpellsSetup (line_fields line) p × (list_all (has_names_if_avoid p) (cut_of line).ended ≡ false)
IsAmissBy line NoMemory = ⊥

-- The fault of a line is the first that applies, over the whole line.
pub record IsFaultOf (line : List ℕ) (fault : EpdFault) : Type 0 where
  pub applies : IsAmissBy line fault
  pub first : (earlier : EpdFault) → fault_number earlier < fault_number fault → ¬ (IsAmissBy line earlier)

unfoldable pub HasNoFault : List ℕ → Type 0
HasNoFault line = (fault : EpdFault) → ¬ (IsAmissBy line fault)
