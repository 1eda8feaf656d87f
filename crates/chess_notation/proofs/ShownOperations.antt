-- A segment shows an operation: its opcode is the first word, and its operands stand behind.
use Rattle.std.proofs.Common.{◌≡◌, ◌≢◌, ℕ, zero, suc, ◌==◌, nat_le, List, [], ◌∷◌, ◌++◌, true}
use Rattle.std.proofs.Common.{false, length, refl, ap, sym, ◌∙◌, replicate, map, ◌&&◌}
use Rattle.std.specs.List.{list_all}
use Rattle.std.proofs.lemmas.Bool.{and_parts}
use Rattle.chess_notation.specs.declared.quoting.Mode.TheVariants.{Plain}
use Rattle.chess_notation.specs.Words.{word_at, behind}
use Rattle.chess_notation.specs.Quoting.{fits_from, squeezed_from}
use Rattle.chess_notation.specs.Operations.{is_letter, is_opcode_byte, is_opcode, AreWordBytes, Operand}
use Rattle.chess_notation.specs.Operations.{SpellsOperands, operands_text, Operation, entry_of}
use Rattle.chess_notation.specs.Opcodes.{same_text}
use Rattle.chess_notation.specs.RecordFields.{entry_in}
use Rattle.chess_notation.specs.Records.{HaveNoSpace, IsApart}
use Rattle.chess_notation.proofs.TextOrder.{same_text_is}
use Rattle.chess_notation.proofs.OperandTexts.{on_spaces, on_word, spelled_done}
use Rattle.chess_notation.proofs.WordSplits.{not_byte}

pub record IsShown (segment : List ℕ) (operation : Operation) : Type 0 where
  pub opcode : word_at segment ≡ operation.opcode
  pub operands : SpellsOperands (behind segment) operation.operands

abbrev pub AreShown : List (List ℕ) → List Operation → Type 0
AreShown [] [] = Unit {0}
AreShown (segment ∷ segments) (operation ∷ operations) = IsShown segment operation × AreShown segments operations
AreShown _ _ = ⊥

-- The segment shows an operation with this opcode, or with another one.
pub shown_opcode : (opcode segment : List ℕ) (operation : Operation) → IsShown segment operation
    → same_text opcode (word_at segment) ≡ true → operation.opcode ≡ opcode
shown_opcode opcode segment operation shown h = sym shown.opcode ∙ sym (same_text_is opcode (word_at segment) h)

pub shown_other_opcode : (opcode : List ℕ) → same_text opcode opcode ≡ true → (segment : List ℕ) (operation : Operation) → IsShown segment operation
    → same_text opcode (word_at segment) ≡ false → operation.opcode ≢ opcode
shown_other_opcode opcode self segment operation shown h e =
    let same : same_text opcode (word_at segment) ≡ true = ap (same_text opcode) (shown.opcode ∙ e) ∙ self in
    cc

shown_entry : (segment : List ℕ) (operation : Operation) → IsShown segment operation → entry_in segment ≡ entry_of operation
shown_entry segment operation h =
    let operands : squeezed_from Plain (behind segment) ≡ operands_text operation.operands =
    (spelled_done operation.operands (behind segment) h.operands).plain_squeezed in
    λ i. record { opcode = h.opcode i; operands = operands i }

pub shown_entries : (segments : List (List ℕ)) (operations : List Operation) → AreShown segments operations
    → map entry_in segments ≡ map entry_of operations
shown_entries [] [] h = refl
shown_entries [] (operation ∷ operations) h = absurd h
shown_entries (segment ∷ segments) [] h = absurd h
shown_entries (segment ∷ segments) (operation ∷ operations) h =
    ap (λ e. e ∷ map entry_in segments) (shown_entry segment operation h.0)
    ∙ ap (λ es. entry_of operation ∷ es) (shown_entries segments operations h.1)

-- the bytes of an opcode
opcode_byte_is_word : (b : ℕ) → is_opcode_byte b ≡ true → (b ≢ 32) × (b ≢ 34) × (b ≢ 59)
opcode_byte_is_word b h = (not_at 32 refl, not_at 34 refl, not_at 59 refl) where
  not_at : (x : ℕ) → is_opcode_byte x ≡ false → b ≢ x
  not_at x fails e = let passes : is_opcode_byte x ≡ true = sym (ap is_opcode_byte e) ∙ h in cc

opcode_bytes_are_word : (bs : List ℕ) → list_all is_opcode_byte bs ≡ true → AreWordBytes bs
opcode_bytes_are_word [] h = tt
opcode_bytes_are_word (b ∷ bs) h =
    let both = and_parts (is_opcode_byte b) (list_all is_opcode_byte bs) h in
    let here = opcode_byte_is_word b both.0 in
    (here.0, here.1, here.2, opcode_bytes_are_word bs both.1)

letter_is_byte : (b : ℕ) → is_letter b ≡ true → is_opcode_byte b ≡ true
letter_is_byte b h = rw h refl

pub opcode_is_word : (word : List ℕ) → is_opcode word ≡ true → AreWordBytes word × (word ≢ [])
opcode_is_word [] h = cc
opcode_is_word (b ∷ bs) h =
    let both = and_parts (is_letter b) (nat_le (length bs) 14 && list_all is_opcode_byte bs) h in
    let more = and_parts (nat_le (length bs) 14) (list_all is_opcode_byte bs) both.1 in
    let here = opcode_byte_is_word b (letter_is_byte b both.0) in
    ((here.0, here.1, here.2, opcode_bytes_are_word bs more.1), λ e. cc)

pub word_bytes_no_space : (word : List ℕ) → AreWordBytes word → HaveNoSpace word
word_bytes_no_space [] bytes = tt
word_bytes_no_space (b ∷ bs) bytes = (bytes.0, word_bytes_no_space bs bytes.3)

-- the strings of a segment, behind its opcode
pub opcode_fits : (n : ℕ) (word rest : List ℕ) → AreWordBytes word → word ≢ []
    → fits_from Plain (replicate n 32 ++ (word ++ rest)) ≡ fits_from Plain rest
opcode_fits zero word rest bytes some = (on_word word bytes).fits rest
opcode_fits (suc n) [] rest bytes some = absurd (some refl)
opcode_fits (suc n) (b ∷ bs) rest bytes some =
    let no_space : (b == 32) ≡ false = not_byte b 32 bytes.0 in
    let no_mark : (b == 34) ≡ false = not_byte b 34 bytes.1 in
    (on_spaces n).fits ((b ∷ bs) ++ rest) ∙ rw (no_mark, no_space) ((on_word bs bytes.3).fits rest)

pub operands_apart : (operands : List Operand) (text : List ℕ) → SpellsOperands text operands → IsApart text
operands_apart [] text h = apart h.0 h.1 where
  apart : (n : ℕ) → text ≡ replicate n 32 → IsApart text
  apart zero e = rw e tt
  apart (suc n) e = rw e refl
operands_apart (operand ∷ operands) text h = rw h.2 refl
