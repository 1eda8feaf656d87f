-- What the segments of a line without one of the first nine faults show.
use Rattle.std.proofs.Common.{◌≡◌, ℕ, ◌≤◌, ◌<◌, nat_le, nat_lt, List, Bool, true, false, length, refl, arith, if◌then◌else◌, ◌&&◌, ◌||◌}
use Rattle.std.specs.List.{list_all}
use Rattle.std.proofs.lemmas.Bool.{and_parts}
use Rattle.std.proofs.lemmas.Bool.Decides.{nat_tests}
use mathlib.Core.Bool.{not}
use Rattle.chess_board.specs.Fields.{digits_value}
use Rattle.chess_notation.specs.declared.epd_faults.EpdFault.TheVariants.{TooLong, NotPrintable, Fen, BadOpcode, BadString}
use Rattle.chess_notation.specs.declared.epd_faults.EpdFault.TheVariants.{MissingSemicolon, DoubleOpcode, BadBound, BoundTooLarge}
use Rattle.chess_notation.specs.declared.epd_faults.EpdFault.TheVariants.{BadAvoid, NoMemory}
use Rattle.chess_notation.specs.inside.RecordReading.{IsClearTo}
use Rattle.chess_notation.specs.Words.{word_at, behind, is_blank}
use Rattle.chess_notation.specs.Segments.{Segments}
use Rattle.chess_notation.specs.Quoting.{strings_fit}
use Rattle.chess_notation.specs.Operations.{is_printable}
use Rattle.chess_notation.specs.Records.{max_line}
use Rattle.chess_notation.specs.RecordFields.{is_number, is_counter, behind_fields, behind_counters, operations_in, cut_of}
use Rattle.chess_notation.specs.EpdFaults.{each_segment, has_opcode, are_distinct, is_bound_segment}
use Rattle.chess_notation.specs.EpdFaults.{has_number, has_number_if_bound, is_small_if_bound}
use Rattle.chess_notation.proofs.WordSplits.{all_behind}
use Rattle.chess_notation.proofs.WordLists.{behind_within}

not_false : (b : Bool) → (b ≡ false → ⊥) → b ≡ true
not_false true h = refl
not_false false h = absurd (h refl)

-- `dm` has a number above 0 and at most 15.
pub record IsBoundNumber (segment : List ℕ) : Type 0 where
  pub digits : is_number (word_at (behind segment)) ≡ true
  pub alone : is_blank (behind (behind segment)) ≡ true
  pub some : 1 ≤ digits_value (word_at (behind segment))
  pub few : digits_value (word_at (behind segment)) ≤ 15

pub bound_number : (segment : List ℕ) → is_bound_segment segment ≡ true → has_number_if_bound segment ≡ true
    → is_small_if_bound segment ≡ true → IsBoundNumber segment
bound_number segment bound number small =
    let here : has_number segment ≡ true = if_bound (is_bound_segment segment) (has_number segment) bound number in
    let low : nat_le (digits_value (word_at (behind segment))) 15 ≡ true =
    if_bound (is_bound_segment segment) (nat_le (digits_value (word_at (behind segment))) 15) bound small in
    let outer = and_parts (is_number (word_at (behind segment)) && is_blank (behind (behind segment)))
    (nat_lt 0 (digits_value (word_at (behind segment)))) here in
    let inner = and_parts (is_number (word_at (behind segment))) (is_blank (behind (behind segment))) outer.0 in
    record {
      digits = inner.0;
      alone = inner.1;
      some = above (digits_value (word_at (behind segment))) outer.1;
      few = below (digits_value (word_at (behind segment))) low;
    } where
      if_bound : (bound test : Bool) → bound ≡ true → (not bound || test) ≡ true → test ≡ true
      if_bound true test b h = h
      if_bound false test b h = cc

      above : (n : ℕ) → nat_lt 0 n ≡ true → 1 ≤ n
      above n h = grind (arith, nat_tests)

      below : (n : ℕ) → nat_le n 15 ≡ true → n ≤ 15
      below n h = grind (arith, nat_tests)

-- The tests that a line without a fault passes.
pub record ArePassed (line : List ℕ) : Type 0 where
  pub short : length line ≤ max_line
  pub printable : list_all is_printable line ≡ true
  pub opcodes : list_all has_opcode (cut_of line).ended ≡ true
  pub fit : list_all strings_fit (cut_of line).ended ≡ true
  pub blank : is_blank (cut_of line).rest ≡ true
  pub distinct : are_distinct (cut_of line).ended ≡ true
  pub numbers : list_all has_number_if_bound (cut_of line).ended ≡ true
  pub small : list_all is_small_if_bound (cut_of line).ended ≡ true

each_ended : (test : List ℕ → Bool) (cut : Segments) → (each_segment test cut ≡ false → ⊥) → list_all test cut.ended ≡ true
each_ended test cut h = (and_parts (list_all test cut.ended) (is_blank cut.rest || test cut.rest) (not_false (each_segment test cut) h)).0

pub no_fault_passes : (line : List ℕ) → IsClearTo 9 line → ArePassed line
unfolding IsClearTo
no_fault_passes line clear = record {
  short = no_more (clear TooLong (omega arith));
  printable = not_false (list_all is_printable line) (clear NotPrintable (omega arith));
  opcodes = each_ended has_opcode (cut_of line) (clear BadOpcode (omega arith));
  fit = each_ended strings_fit (cut_of line) (clear BadString (omega arith));
  blank = not_false (is_blank (cut_of line).rest) (clear MissingSemicolon (omega arith));
  distinct = not_false (are_distinct (cut_of line).ended) (clear DoubleOpcode (omega arith));
  numbers = not_false (list_all has_number_if_bound (cut_of line).ended) (clear BadBound (omega arith));
  small = not_false (list_all is_small_if_bound (cut_of line).ended) (clear BoundTooLarge (omega arith));
} where
  no_more : (max_line < length line → ⊥) → length line ≤ max_line
  no_more h = omega (arith, h)

-- So its operations are printable, each segment has an opcode of its own, and the bound is one.
pub no_fault_opcodes : (line : List ℕ) → IsClearTo 9 line → list_all has_opcode (cut_of line).ended ≡ true
no_fault_opcodes line clear = (no_fault_passes line clear).opcodes

pub no_fault_distinct : (line : List ℕ) → IsClearTo 9 line → are_distinct (cut_of line).ended ≡ true
no_fault_distinct line clear = (no_fault_passes line clear).distinct

counters_keep : (b : Bool) (p : ℕ → Bool) (text : List ℕ) → list_all p text ≡ true → list_all p (if b then behind (behind text) else text) ≡ true
counters_keep true p text h = all_behind p (behind text) (all_behind p text h)
counters_keep false p text h = h

pub no_fault_printable : (line : List ℕ) → IsClearTo 9 line → list_all is_printable (operations_in line) ≡ true
unfolding operations_in behind_counters behind_fields
no_fault_printable line clear =
    let p = is_printable in
    let tail = behind (behind (behind (behind line))) in
    counters_keep (is_counter (word_at tail) && is_counter (word_at (behind tail))) p tail
    (all_behind p (behind (behind (behind line))) (all_behind p (behind (behind line))
    (all_behind p (behind line) (all_behind p line (no_fault_passes line clear).printable))))

-- The text of its operations is no longer than the line.
pub operations_within : (line : List ℕ) → length (operations_in line) ≤ length line
unfolding operations_in behind_counters behind_fields
operations_within line =
    let tail = behind (behind (behind (behind line))) in
    let fields : length tail ≤ length line = omega (
      arith,
      behind_within line,
      behind_within (behind line),
      behind_within (behind (behind line)),
      behind_within (behind (behind (behind line))),
    ) in
    by_counters (is_counter (word_at tail) && is_counter (word_at (behind tail))) fields where
      by_counters : (b : Bool) → length (behind (behind (behind (behind line)))) ≤ length line
          → length (if b then behind (behind (behind (behind (behind (behind line))))) else behind (behind (behind (behind line)))) ≤ length line
      by_counters true fields = omega (
        arith,
        fields,
        behind_within (behind (behind (behind (behind line)))),
        behind_within (behind (behind (behind (behind (behind line))))),
      )
      by_counters false fields = fields

-- Without one of the first eight, each `dm` has a number. Where this is a bound, there is none of the first nine.
pub numbers_passed : (line : List ℕ) → IsClearTo 8 line → list_all has_number_if_bound (cut_of line).ended ≡ true
unfolding IsClearTo
numbers_passed line clear = not_false (list_all has_number_if_bound (cut_of line).ended) (clear BadBound (omega arith))

pub clear_of_large : (line : List ℕ) → IsClearTo 8 line → list_all is_small_if_bound (cut_of line).ended ≡ true → IsClearTo 9 line
unfolding IsClearTo
clear_of_large line clear small TooLong low = clear TooLong (omega arith)
clear_of_large line clear small NotPrintable low = clear NotPrintable (omega arith)
clear_of_large line clear small (Fen fault) low = clear (Fen fault) (omega arith)
clear_of_large line clear small BadOpcode low = clear BadOpcode (omega arith)
clear_of_large line clear small BadString low = clear BadString (omega arith)
clear_of_large line clear small MissingSemicolon low = clear MissingSemicolon (omega arith)
clear_of_large line clear small DoubleOpcode low = clear DoubleOpcode (omega arith)
clear_of_large line clear small BadBound low = clear BadBound (omega arith)
clear_of_large line clear small BoundTooLarge low = λ large. cc
clear_of_large line clear small BadAvoid low = absurd (omega (arith, low))
clear_of_large line clear small NoMemory low = absurd (omega (arith, low))
