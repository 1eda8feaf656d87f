-- Segments that pass the tests are spelled as operations.
use Rattle.std.proofs.Common.{◌≡◌, ℕ, zero, suc, ◌==◌, List, [], ◌∷◌, ◌++◌, true, false, refl, ap, sym, ◌∙◌, replicate, subst}
use Rattle.std.specs.List.{list_all}
use Rattle.std.proofs.lemmas.Bool.{and_parts}
use Rattle.chess_notation.specs.declared.quoting.Mode.TheVariants.{Plain, Closed}
use Rattle.chess_notation.specs.Words.{word_at, behind, is_blank}
use Rattle.chess_notation.specs.Segments.{segments_of}
use Rattle.chess_notation.specs.Quoting.{fits_from, strings_fit}
use Rattle.chess_notation.specs.Operations.{is_opcode, AreWordBytes, Operation, SpellsOperation, SpellsOperations}
use Rattle.chess_notation.specs.EpdFaults.{has_opcode}
use Rattle.chess_notation.specs.Records.{IsApart}
use Rattle.chess_notation.proofs.WordSplits.{not_byte, words_split, blank_is_spaces}
use Rattle.chess_notation.proofs.OperandReading.{is_uncut, read_left}
use Rattle.chess_notation.proofs.SegmentCuts.{AreUncut, are_uncut, join, joined}
use Rattle.chess_notation.proofs.ShownOperations.{IsShown, AreShown, opcode_is_word, opcode_fits}

apart_closed : (rest : List ℕ) → IsApart rest → fits_from Closed rest ≡ fits_from Plain rest
apart_closed [] apart = refl
apart_closed (b ∷ bs) apart = rw apart refl

uncut_on : (word rest : List ℕ) → AreWordBytes word → is_uncut false (word ++ rest) ≡ is_uncut false rest
uncut_on [] rest bytes = refl
uncut_on (b ∷ bs) rest bytes =
    let no_end : (b == 59) ≡ false = not_byte b 59 bytes.2 in
    let no_mark : (b == 34) ≡ false = not_byte b 34 bytes.1 in
    rw (no_end, no_mark) (uncut_on bs rest bytes.3)

uncut_spaces : (n : ℕ) (rest : List ℕ) → is_uncut false (replicate n 32 ++ rest) ≡ is_uncut false rest
uncut_spaces zero rest = refl
uncut_spaces (suc n) rest = uncut_spaces n rest

read_operation : (segment : List ℕ) → is_opcode (word_at segment) ≡ true → strings_fit segment ≡ true → is_uncut false segment ≡ true
    → (operation : Operation) × SpellsOperation segment operation × IsShown segment operation
read_operation segment opcode fits uncut =
    let split = words_split segment in
    let word = opcode_is_word (word_at segment) opcode in
    let plain : fits_from Plain (behind segment) ≡ true =
    sym (opcode_fits split.0 (word_at segment) (behind segment) word.0 word.1) ∙ sym (ap (fits_from Plain) split.1) ∙ fits in
    let closed : fits_from Closed (behind segment) ≡ true = apart_closed (behind segment) split.2 ∙ plain in
    let clear : is_uncut false (behind segment) ≡ true =
    sym (uncut_on (word_at segment) (behind segment) word.0) ∙ sym (uncut_spaces split.0 (word_at segment ++ behind segment))
    ∙ sym (ap (is_uncut false) split.1) ∙ uncut in
    let left = read_left (behind segment) Closed closed clear in (
      record { opcode = word_at segment; operands = left.0 },
      (split.0, behind segment, split.1, opcode, left.1),
      record { opcode = refl; operands = left.1 },
    )

read_segments : (ended : List (List ℕ)) (rest : List ℕ) → list_all has_opcode ended ≡ true → list_all strings_fit ended ≡ true
    → AreUncut false ended → is_blank rest ≡ true
    → (operations : List Operation) × SpellsOperations (join ended rest) operations × AreShown ended operations
read_segments [] rest opcodes fit uncut blank = ([], blank_is_spaces rest blank, tt)
read_segments (segment ∷ segments) rest opcodes fit uncut blank =
    let opcode = and_parts (has_opcode segment) (list_all has_opcode segments) opcodes in
    let fits = and_parts (strings_fit segment) (list_all strings_fit segments) fit in
    let here = read_operation segment opcode.0 fits.0 uncut.0 in
    let more = read_segments segments rest opcode.1 fits.1 uncut.1 blank in
    (here.0 ∷ more.0, (segment, join segments rest, refl, here.1, more.1), (here.2, more.2))

pub read_text : (text : List ℕ) → list_all has_opcode (segments_of text).ended ≡ true → list_all strings_fit (segments_of text).ended ≡ true
    → is_blank (segments_of text).rest ≡ true
    → (operations : List Operation) × SpellsOperations text operations × AreShown (segments_of text).ended operations
read_text text opcodes fit blank =
    let cut = segments_of text in
    let got = read_segments cut.ended cut.rest opcodes fit (are_uncut text false) blank in
    let P : List ℕ → Type 0 = λ t. SpellsOperations t got.0 in
    (got.0, subst P (sym (joined text false)) got.1, got.2)
