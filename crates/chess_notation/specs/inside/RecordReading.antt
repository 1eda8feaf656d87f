-- Not for believing: the record of a line without a fault, made from its segments one after the other, a step of the proofs. What
-- a record is stands in Records.antt.
use Rattle.std.specs.Prelude.{ℕ, ◌≤◌, List, [], ◌∷◌, Option, Some, None, if◌then◌else◌}
use Rattle.std.specs.Option.{option_map_or}
use Rattle.chess_board.specs.Positions.{Setup}
use Rattle.chess_board.specs.Moves.{Move}
use Rattle.chess_board.specs.Fields.{digits_value}
use Rattle.chess_notation.specs.Words.{word_at, behind, words_in}
use Rattle.chess_notation.specs.Operations.{Entry}
use Rattle.chess_notation.specs.Opcodes.{is_own, with_entry}
use Rattle.chess_notation.specs.RecordFields.{entry_in}
use Rattle.chess_notation.specs.AvoidMoves.{named}
use Rattle.chess_notation.specs.EpdFaults.{is_bound_segment, is_avoid_segment, fault_number, IsAmissBy}
use Rattle.chess_notation.specs.declared.epd_faults.EpdFault.{EpdFault}

-- None of the faults up to this number applies.
unfoldable pub IsClearTo : ℕ → List ℕ → Type 0
IsClearTo n line = (fault : EpdFault) → fault_number fault ≤ n → ¬ (IsAmissBy line fault)

-- the entries of the segments, but for those that an answer writes itself
abbrev pub kept : List (List ℕ) → List Entry
kept [] = []
kept (segment ∷ segments) = if is_own (word_at segment) then kept segments else entry_in segment ∷ kept segments

-- the entries put at their places one after the other
abbrev pub inserted : List Entry → List Entry → List Entry
inserted done [] = done
inserted done (entry ∷ entries) = inserted (with_entry entry done) entries

unfoldable pub rest_of : List (List ℕ) → List Entry
rest_of segments = inserted [] (kept segments)

-- the value of `dm`, or the default
unfoldable pub bound_said : List (List ℕ) → ℕ → ℕ
bound_said [] default = default
bound_said (segment ∷ segments) default = if is_bound_segment segment then digits_value (word_at (behind segment)) else bound_said segments default

-- what stands behind `am`, if it is there
unfoldable pub avoid_text_in : List (List ℕ) → Option (List ℕ)
avoid_text_in [] = None
avoid_text_in (segment ∷ segments) = if is_avoid_segment segment then Some (behind segment) else avoid_text_in segments

-- the moves that it names, or none
unfoldable pub avoid_in : Setup → List (List ℕ) → List Move
avoid_in p segments = option_map_or (λ text. named p (words_in text)) (avoid_text_in segments) []
