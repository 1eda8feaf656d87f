-- The operations of an answer: each stands once, they keep what the record keeps, and they ask for the bound.
use Rattle.std.proofs.Common.{◌≡◌, ◌≢◌, ℕ, ◌≤◌, List, true, false, map, codes, decimal, refl, ap, ◌∙◌, arith, inl, inr}
use Rattle.chess_board.specs.Positions.{Setup}
use Rattle.chess_board.specs.Moves.{Move}
use Rattle.chess_notation.specs.Operations.{Operation, Entry, entry_of}
use Rattle.chess_notation.specs.Opcodes.{same_text, RisesByOpcode, with_entry}
use Rattle.chess_notation.specs.Records.{dm_of, IsRestOf, IsBoundOf, AreToAvoid}
use Rattle.chess_notation.specs.Answers.{keys_entry, length_entry, line_entry, none_entry}
use Rattle.chess_notation.proofs.Numerals.{decimal_digits, decimal_value}
use Rattle.chess_notation.proofs.MergedOperations.{IsNew-with_operation, with_operation, map-with_operation, with_operation_own, with_operation_other}
use Rattle.chess_notation.proofs.SpellableOperations.{IsSpellable}
use Rattle.chess_notation.proofs.OwnOperations.{keys_operation, keys_entry_of, length_spellable, line_operation}
use Rattle.chess_notation.proofs.OwnOperations.{line_entry_of, none_operation, none_spellable}
use Rattle.chess_notation.proofs.KeptOperations.{AreCopied, IsAnswer, answer_alone, answer_with, own_is_new, rest_of_answer}

-- the operations that show these entries, where the record keeps those of the rest and asks to avoid these moves
pub record IsAnswered (p : Setup) (avoid : List Move) (entries rest : List Entry) (default asked : ℕ) : Type 0 where
  pub copied : List Operation
  pub operations : List Operation
  pub shown : map entry_of operations ≡ entries
  pub answer : IsAnswer copied operations
  pub kept : IsRestOf operations rest
  pub bound : IsBoundOf operations default asked
  pub avoid_is : AreToAvoid p operations avoid

-- Opcodes that an answer writes itself are not the same.
apart : (a b : List ℕ) → same_text a a ≡ true → same_text a b ≡ false → a ≢ b
apart a b same other e = let too : same_text a a ≡ same_text a b = ap (same_text a) e in cc

none_bound : {line : List Operation} (default n : ℕ) (rest : List Entry) (copied : AreCopied line rest)
    → IsBoundOf (with_operation (none_operation n) copied.operations) default default
none_bound default n rest copied =
    let others = own_is_new _ (codes "dm") copied.operations refl copied.each in
    inl (IsNew-with_operation (codes "dm") (none_operation n) copied.operations (apart (codes "c0") (codes "dm") refl refl) others, refl)

-- where there is no mate
pub none_answered : {line : List Operation} (p : Setup) (avoid : List Move) (default n : ℕ) (rest : List Entry)
    (copied : AreCopied line rest) → RisesByOpcode rest
    → ((all : List Operation) → IsAnswer copied.operations all → AreToAvoid p all avoid)
    → IsAnswered p avoid (with_entry (none_entry n) rest) rest default default
none_answered p avoid default n rest copied rises avoids =
    let own = none_operation n in
    let new = own_is_new _ (codes "c0") copied.operations refl copied.each in
    let all = with_operation own copied.operations in
    let answer = answer_with own copied.operations copied.operations (none_spellable n) refl new (answer_alone rest copied rises) in
    record {
      copied = copied.operations;
      operations = all;
      shown = map-with_operation own copied.operations ∙ ap (with_entry (none_entry n)) copied.shown;
      answer = answer;
      kept = rest_of_answer rest copied all rises answer;
      bound = none_bound default n rest copied;
      avoid_is = avoids all answer;
    }

-- the line of play, the length and the keys, put in one after the other
abbrev with_line : Setup → List Move → List Operation → List Operation
with_line p line os = with_operation (line_operation p line) os

abbrev with_length : Setup → List Move → ℕ → List Operation → List Operation
with_length p line n os = with_operation (dm_of (decimal n)) (with_line p line os)

abbrev with_keys : Setup → List Move → List Move → ℕ → List Operation → List Operation
with_keys p keys line n os = with_operation (keys_operation p keys) (with_length p line n os)

abbrev pub mate_entries : Setup → List Move → List Move → ℕ → List Entry → List Entry
mate_entries p keys line n rest = with_entry (keys_entry p keys) (with_entry (length_entry n) (with_entry (line_entry p line) rest))

mate_shown : (p : Setup) (keys line : List Move) (n : ℕ) (os : List Operation)
    → map entry_of (with_keys p keys line n os) ≡ mate_entries p keys line n (map entry_of os)
mate_shown p keys line n os =
    let shown_line : map entry_of (with_line p line os) ≡ with_entry (line_entry p line) (map entry_of os) =
    map-with_operation (line_operation p line) os ∙ ap (λ e. with_entry e (map entry_of os)) (line_entry_of p line) in
    let shown_length = map-with_operation (dm_of (decimal n)) (with_line p line os) ∙ ap (with_entry (length_entry n)) shown_line in
    map-with_operation (keys_operation p keys) (with_length p line n os)
    ∙ ap (λ e. with_entry e (map entry_of (with_length p line n os))) (keys_entry_of p keys) ∙ ap (with_entry (keys_entry p keys)) shown_length

mate_answer : {source : List Operation} (p : Setup) (keys line : List Move) (n : ℕ) (rest : List Entry)
    (copied : AreCopied source rest) → RisesByOpcode rest
    → IsSpellable (keys_operation p keys) → IsSpellable (line_operation p line)
    → IsAnswer copied.operations (with_keys p keys line n copied.operations)
mate_answer p keys line n rest copied rises keys_can line_can =
    let os = copied.operations in
    let pv = line_operation p line in
    let dm = dm_of (decimal n) in
    let pv_new = own_is_new _ (codes "pv") os refl copied.each in
    let dm_new = IsNew-with_operation (codes "dm") pv os (apart (codes "pv") (codes "dm") refl refl)
    (own_is_new _ (codes "dm") os refl copied.each) in
    let bm_new = IsNew-with_operation (codes "bm") dm (with_line p line os) (apart (codes "dm") (codes "bm") refl refl)
    (IsNew-with_operation (codes "bm") pv os (apart (codes "pv") (codes "bm") refl refl) (own_is_new _ (codes "bm") os refl copied.each)) in
    let with_pv = answer_with pv os os line_can refl pv_new (answer_alone rest copied rises) in
    let with_dm = answer_with dm os (with_line p line os) (length_spellable n) refl dm_new with_pv in
    answer_with (keys_operation p keys) os (with_length p line n os) keys_can refl bm_new with_dm

mate_bound : (p : Setup) (keys line : List Move) (default n : ℕ) (os : List Operation) → 1 ≤ n → n ≤ 15
    → IsBoundOf (with_keys p keys line n os) default n
mate_bound p keys line default n os some few =
    let dm = dm_of (decimal n) in
    let stands = with_operation_other (keys_operation p keys) (with_length p line n os) dm (with_operation_own dm (with_line p line os)) in
    inr (decimal n, stands, decimal_digits n, decimal_value n (omega arith), some, few)

-- where there is a mate in n
pub mate_answered : {source : List Operation} (p : Setup) (avoid keys line : List Move) (default n : ℕ) (rest : List Entry)
    (copied : AreCopied source rest) → RisesByOpcode rest
    → ((all : List Operation) → IsAnswer copied.operations all → AreToAvoid p all avoid)
    → IsSpellable (keys_operation p keys) → IsSpellable (line_operation p line) → 1 ≤ n → n ≤ 15
    → IsAnswered p avoid (mate_entries p keys line n rest) rest default n
mate_answered p avoid keys line default n rest copied rises avoids keys_can line_can some few =
    let all = with_keys p keys line n copied.operations in
    let answer = mate_answer p keys line n rest copied rises keys_can line_can in
    record {
      copied = copied.operations;
      operations = all;
      shown = mate_shown p keys line n copied.operations ∙ ap (mate_entries p keys line n) copied.shown;
      answer = answer;
      kept = rest_of_answer rest copied all rises answer;
      bound = mate_bound p keys line default n copied.operations some few;
      avoid_is = avoids all answer;
    }
