-- The four fields of a line are its first four words.
use Rattle.std.proofs.Common.{◌≡◌, ◌≢◌, ℕ, ◌==◌, List, [], ◌∷◌, Bool, true, false, refl, ap, sym, ◌∙◌, if◌then◌else◌}
use Rattle.chess_board.specs.Fens.{Fields}
use Rattle.chess_notation.specs.Words.{after_spaces, front_word, after_word, word_at, behind}
use Rattle.chess_notation.specs.RecordFields.{fourth_word, line_fields, behind_fields}
use Rattle.chess_notation.specs.Records.{IsWord, SpellsWords, field_words}
use Rattle.chess_notation.proofs.WordSplits.{words_split, word_no_space, word_again}

-- Where a second word stands there is a first.
no_word_if : (space : Bool) (b : ℕ) (bs : List ℕ) → (b == 32) ≡ space → (front_word (after_spaces bs) ≡ [] → after_word (after_spaces bs) ≡ [])
    → front_word (if space then after_spaces bs else b ∷ bs) ≡ [] → after_word (if space then after_spaces bs else b ∷ bs) ≡ []
no_word_if true b bs s rest h = rest h
no_word_if false b bs s rest h = let some : b ∷ front_word bs ≡ [] = rw s at h in cc

no_word : (text : List ℕ) → front_word (after_spaces text) ≡ [] → after_word (after_spaces text) ≡ []
no_word [] h = refl
no_word (b ∷ bs) h = no_word_if (b == 32) b bs refl (no_word bs) h

word_before : (text : List ℕ) → word_at (behind text) ≢ [] → word_at text ≢ []
unfolding word_at behind
word_before text second none = second (ap (λ t. front_word (after_spaces t)) (no_word text none))

pub read_fields : (line : List ℕ) → fourth_word line ≢ [] → SpellsWords IsWord line (field_words (line_fields line)) (behind_fields line)
unfolding fourth_word line_fields behind_fields
read_fields line some4 =
    let second = behind line in
    let third = behind second in
    let last = behind third in
    let some3 : word_at third ≢ [] = word_before third some4 in
    let some2 : word_at second ≢ [] = word_before second some3 in
    let some1 : word_at line ≢ [] = word_before line some2 in
    let a = words_split line in
    let b = words_split second in
    let c = words_split third in
    let d = words_split last in (
      a.0,
      second,
      a.1,
      (some1, word_no_space line),
      a.2,
      (
        b.0,
        third,
        b.1,
        (some2, word_no_space second),
        b.2,
        (
          c.0,
          last,
          c.1,
          (some3, word_no_space third),
          c.2,
          (d.0, behind last, d.1, (some4, word_no_space last), d.2, refl),
        ),
      ),
    )

-- The other way.
pub record HasFields (line : List ℕ) (fields : Fields) (tail : List ℕ) : Type 0 where
  pub some : fourth_word line ≢ []
  pub fields_are : line_fields line ≡ fields
  pub tail_is : behind_fields line ≡ tail

pub spelled_fields : (line : List ℕ) (fields : Fields) (tail : List ℕ)
    → SpellsWords IsWord line (field_words fields) tail → HasFields line fields tail
unfolding fourth_word line_fields behind_fields
spelled_fields line fields tail w1 =
    let n1 = word_again w1.0 line fields.placement w1.1 w1.2 w1.3.1 w1.3.0 w1.4 in
    let w2 = w1.5 in
    let n2 = word_again w2.0 w1.1 fields.side w2.1 w2.2 w2.3.1 w2.3.0 w2.4 in
    let w3 = w2.5 in
    let n3 = word_again w3.0 w2.1 fields.castling w3.1 w3.2 w3.3.1 w3.3.0 w3.4 in
    let w4 = w3.5 in
    let n4 = word_again w4.0 w3.1 fields.target w4.1 w4.2 w4.3.1 w4.3.0 w4.4 in
    let r1 = n1.rest_is in
    let r2 : behind (behind line) ≡ w2.1 = ap behind r1 ∙ n2.rest_is in
    let r3 : behind (behind (behind line)) ≡ w3.1 = ap behind r2 ∙ n3.rest_is in
    let one = n1.word_is in
    let two : word_at (behind line) ≡ fields.side = ap word_at r1 ∙ n2.word_is in
    let three : word_at (behind (behind line)) ≡ fields.castling = ap word_at r2 ∙ n3.word_is in
    let four : word_at (behind (behind (behind line))) ≡ fields.target = ap word_at r3 ∙ n4.word_is in
    record {
      some = λ e. w4.3.0 (sym four ∙ e);
      fields_are = λ i. record { placement = one i; side = two i; castling = three i; target = four i };
      tail_is = ap behind r3 ∙ n4.rest_is ∙ w4.5;
    }
