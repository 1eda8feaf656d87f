-- FEN's counters behind the fields: no operation begins with one, so that they are passed over where they stand.
use Rattle.std.proofs.Common.{◌≡◌, ◌≢◌, ℕ, zero, suc, ◌<◌, ◌≤◌, ◌==◌, nat_le, List, [], ◌∷◌, ◌++◌}
use Rattle.std.proofs.Common.{Bool, true, false, length, slice_index_or, refl, ap, sym, ◌∙◌, arith}
use Rattle.std.proofs.Common.{append_assoc, replicate, inl, inr, if◌then◌else◌, ◌&&◌}
use Rattle.std.specs.List.{list_all}
use Rattle.std.proofs.lemmas.Bool.{and_parts}
use Rattle.std.proofs.lemmas.Bool.Decides.{nat_tests}
use Rattle.chess_board.specs.Fields.{IsDigit, IsCounter}
use Rattle.chess_notation.specs.Words.{after_spaces, front_word, word_at, behind}
use Rattle.chess_notation.specs.Segments.{segments_of}
use Rattle.chess_notation.specs.Operations.{is_digit, is_letter, is_opcode_byte, is_opcode, Operation, SpellsOperations}
use Rattle.chess_notation.specs.RecordFields.{is_number, is_counter, behind_counters}
use Rattle.chess_notation.specs.Records.{HaveNoSpace, SpellsRest}
use Rattle.chess_notation.proofs.WordSplits.{words_split, spaces_over, word_again}
use Rattle.chess_notation.proofs.OperationTexts.{AreSegments, spelled_segments}

-- A counter, as FEN has it and as it is tested here.
digit_from : (b : ℕ) → is_digit b ≡ true → IsDigit b
digit_from b h = let parts = and_parts (nat_le 48 b) (nat_le b 57) h in ((grind (arith, nat_tests)), (grind (arith, nat_tests)))

digit_to : (b : ℕ) → IsDigit b → is_digit b ≡ true
digit_to b h = test b h.0 h.1 where
  test : (b : ℕ) → 48 ≤ b → b ≤ 57 → is_digit b ≡ true
  test b low high = grind (arith, nat_tests)

digits_from : (word : List ℕ) → list_all is_digit word ≡ true → (k d : ℕ) → k < length word → IsDigit (slice_index_or word k d)
digits_from [] h k d below = absurd (omega arith)
digits_from (b ∷ bs) h zero d below = digit_from b (and_parts (is_digit b) (list_all is_digit bs) h).0
digits_from (b ∷ bs) h (suc k) d below = digits_from bs (and_parts (is_digit b) (list_all is_digit bs) h).1 k d (omega arith)

digits_to : (word : List ℕ) → ((k d : ℕ) → k < length word → IsDigit (slice_index_or word k d)) → list_all is_digit word ≡ true
digits_to [] h = refl
digits_to (b ∷ bs) h = let here : is_digit b ≡ true = digit_to b (h 0 0 (omega arith)) in
    rw here (digits_to bs (λ k d below. h (suc k) d (omega arith)))

counter_from : (word : List ℕ) → is_counter word ≡ true → IsCounter word
counter_from [] h = cc
counter_from (b ∷ bs) h =
    let parts = and_parts (is_number (b ∷ bs)) (nat_le (length (b ∷ bs)) 4) h in
    (omega arith, short (length (b ∷ bs)) parts.1, digits_from (b ∷ bs) parts.0) where
      short : (n : ℕ) → nat_le n 4 ≡ true → n ≤ 4
      short n h = grind (arith, nat_tests)

counter_to : (word : List ℕ) → IsCounter word → is_counter word ≡ true
counter_to [] h = absurd (omega (arith, h.0))
counter_to (b ∷ bs) h =
    let digits : list_all is_digit (b ∷ bs) ≡ true = digits_to (b ∷ bs) h.2 in
    test (is_number (b ∷ bs)) (length (b ∷ bs)) digits h.1 where
      test : (number : Bool) (n : ℕ) → number ≡ true → n ≤ 4 → (number && nat_le n 4) ≡ true
      test number n h short = let low : nat_le n 4 ≡ true = grind (arith, nat_tests) in rw (h, low) refl

digits_no_space : (word : List ℕ) → list_all is_digit word ≡ true → HaveNoSpace word
digits_no_space [] h = tt
digits_no_space (b ∷ bs) h =
    let parts = and_parts (is_digit b) (list_all is_digit bs) h in
    (not_space b parts.0, digits_no_space bs parts.1) where
      not_space : (b : ℕ) → is_digit b ≡ true → b ≢ 32
      not_space b h e = let passes : is_digit 32 ≡ true = sym (ap is_digit e) ∙ h in cc

counter_is_word : (word : List ℕ) → is_counter word ≡ true → HaveNoSpace word × (word ≢ [])
counter_is_word [] h = cc
counter_is_word (b ∷ bs) h = (digits_no_space (b ∷ bs) (and_parts (is_number (b ∷ bs)) (nat_le (length (b ∷ bs)) 4) h).0, λ e. cc)

-- Operations do not begin with a counter.
letter_no_digit : (b : ℕ) → is_letter b ≡ true → is_digit b ≡ false
letter_no_digit b h = grind (arith, nat_tests)

letter_no_space : (b : ℕ) → is_letter b ≡ true → (b == 32) ≡ false
letter_no_space b h = grind (arith, nat_tests)

spaces_no_counter : (n : ℕ) → is_counter (word_at (replicate n 32)) ≡ false
unfolding word_at
spaces_no_counter zero = refl
spaces_no_counter (suc n) = spaces_no_counter n

letter_no_counter : (n b : ℕ) (more : List ℕ) → is_letter b ≡ true → is_counter (word_at (replicate n 32 ++ (b ∷ more))) ≡ false
unfolding word_at
letter_no_counter n b more letter =
    let no_space : (b == 32) ≡ false = letter_no_space b letter in
    let no_digit : is_digit b ≡ false = letter_no_digit b letter in
    let there : after_spaces (replicate n 32 ++ (b ∷ more)) ≡ b ∷ more = spaces_over n (b ∷ more) ∙ rw no_space refl in
    let word : front_word (after_spaces (replicate n 32 ++ (b ∷ more))) ≡ b ∷ front_word more = ap front_word there ∙ rw no_space refl in
    rw (word, no_digit) refl

operation_no_counter : (n : ℕ) (opcode rest tail text : List ℕ) → is_opcode opcode ≡ true → text ≡ (replicate n 32 ++ (opcode ++ rest)) ++ tail
    → is_counter (word_at text) ≡ false
operation_no_counter n [] rest tail text opcode e = cc
operation_no_counter n (b ∷ bs) rest tail text opcode e =
    let letter = (and_parts (is_letter b) (nat_le (length bs) 14 && list_all is_opcode_byte bs) opcode).0 in
    ap (λ t. is_counter (word_at t)) (e ∙ append_assoc (replicate n 32) (b ∷ (bs ++ rest)) tail) ∙ letter_no_counter n b ((bs ++ rest) ++ tail) letter

no_counter : (operations : List Operation) (text : List ℕ) → SpellsOperations text operations → is_counter (word_at text) ≡ false
no_counter [] text h = ap (λ t. is_counter (word_at t)) h.1 ∙ spaces_no_counter h.0
no_counter (operation ∷ operations) text h =
    operation_no_counter h.3.0 operation.opcode h.3.1 (59 ∷ h.1) text h.3.3 (h.2 ∙ ap (λ p. p ++ 59 ∷ h.1) h.3.2)

-- What stands behind the fields is read as it is spelled, with counters or without.
rest_spelled_if : (b : Bool) (text : List ℕ) (operations : List Operation) → (is_counter (word_at text) && is_counter (word_at (behind text))) ≡ b
    → SpellsOperations (if b then behind (behind text) else text) operations → SpellsRest text operations
rest_spelled_if true text operations e h =
    let both = and_parts (is_counter (word_at text)) (is_counter (word_at (behind text))) e in
    let first = words_split text in
    let second = words_split (behind text) in
    let one = counter_from (word_at text) both.0 in
    let two = counter_from (word_at (behind text)) both.1 in
    inr (
      word_at text,
      word_at (behind text),
      behind (behind text),
      (first.0, behind text, first.1, one, first.2, (second.0, behind (behind text), second.1, two, second.2, refl)),
      h,
    )
rest_spelled_if false text operations e h = inl h

pub rest_spelled : (text : List ℕ) (operations : List Operation) → SpellsOperations (behind_counters text) operations → SpellsRest text operations
unfolding behind_counters
rest_spelled text operations h = rest_spelled_if (is_counter (word_at text) && is_counter (word_at (behind text))) text operations refl h

pub spelled_rest : (operations : List Operation) (text : List ℕ) → SpellsRest text operations
    → AreSegments (segments_of (behind_counters text)) operations
unfolding behind_counters
spelled_rest operations text (inl h) = rw (no_counter operations text h) (spelled_segments operations text h)
spelled_rest operations text (inr h) =
    let words = h.3 in
    let first_test = counter_to h.0 words.3 in
    let first_bytes = counter_is_word h.0 first_test in
    let first = word_again words.0 text h.0 words.1 words.2 first_bytes.0 first_bytes.1 words.4 in
    let more = words.5 in
    let second_test = counter_to h.1 more.3 in
    let second_bytes = counter_is_word h.1 second_test in
    let second = word_again more.0 words.1 h.1 more.1 more.2 second_bytes.0 second_bytes.1 more.4 in
    let tail : behind (behind text) ≡ h.2 = ap behind first.rest_is ∙ second.rest_is ∙ more.5 in
    let one : is_counter (word_at text) ≡ true = ap is_counter first.word_is ∙ first_test in
    let two : is_counter (word_at (behind text)) ≡ true =
    ap (λ t. is_counter (word_at t)) first.rest_is ∙ ap is_counter second.word_is ∙ second_test in
    rw (one, two, tail) (spelled_segments operations h.2 h.4)
