-- The four fields of a text: what stands apart behind them changes none of these.
use Rattle.std.proofs.Common.{◌≡◌, ◌≢◌, ℕ, zero, suc, ◌==◌, List, [], ◌∷◌, ◌++◌, length, Bool, true, false}
use Rattle.std.proofs.Common.{refl, ap, sym, subst, ◌∙◌, arith, replicate, if◌then◌else◌, append_assoc}
use Rattle.std.proofs.lemmas.Bool.Decides.{nat_tests}
use Rattle.std.proofs.lemmas.List.{append-nil}
use Rattle.chess_board.specs.Fens.{Fields, SpellsSetup}
use Rattle.chess_notation.specs.Words.{after_spaces, front_word, after_word, word_at, behind}
use Rattle.chess_notation.specs.RecordFields.{fourth_word, line_fields}
use Rattle.chess_notation.specs.Records.{HaveNoSpace, IsApart, IsWord, RecordValue, Reads, SpellsWords, field_words}
use Rattle.problem_import.specs.Imports.{IsRecord}
use Rattle.problem_import.specs.inside.FieldTexts.{GoesOn, IsBehindFields, four_text}

-- ---- words

not_byte : (a b : ℕ) → a ≢ b → (a == b) ≡ false
not_byte a b other = grind (arith, nat_tests)

no_space_if : (space : Bool) (b : ℕ) (word : List ℕ) → (b == 32) ≡ space → HaveNoSpace word → HaveNoSpace (if space then [] else b ∷ word)
no_space_if true b word s later = tt
no_space_if false b word s later = ((λ e. (grind (arith, nat_tests))), later)

front_no_space : (text : List ℕ) → HaveNoSpace (front_word text)
front_no_space [] = tt
front_no_space (b ∷ bs) = no_space_if (b == 32) b (front_word bs) refl (front_no_space bs)

word_no_space : (text : List ℕ) → HaveNoSpace (word_at text)
unfolding word_at
word_no_space text = front_no_space (after_spaces text)

-- A word and what stands apart behind it are found again.
front_of : (word rest : List ℕ) → HaveNoSpace word → IsApart rest → (front_word (word ++ rest) ≡ word) × (after_word (word ++ rest) ≡ rest)
front_of [] [] bytes apart = (refl, refl)
front_of [] (b ∷ rest) bytes apart = rw apart (refl, refl)
front_of (b ∷ bs) rest bytes apart =
    let no_space : (b == 32) ≡ false = not_byte b 32 bytes.0 in
    let again = front_of bs rest bytes.1 apart in
    (rw no_space (ap (λ t. b ∷ t) again.0), rw no_space again.1)

spaces_over : (n : ℕ) (text : List ℕ) → after_spaces (replicate n 32 ++ text) ≡ after_spaces text
spaces_over zero text = refl
spaces_over (suc n) text = spaces_over n text

no_spaces_over : (word rest : List ℕ) → HaveNoSpace word → word ≢ [] → after_spaces (word ++ rest) ≡ word ++ rest
no_spaces_over [] rest bytes some = absurd (some refl)
no_spaces_over (b ∷ bs) rest bytes some = let no_space : (b == 32) ≡ false = not_byte b 32 bytes.0 in rw no_space refl

record IsNext (text word rest : List ℕ) : Type 0 where
  pub word_is : word_at text ≡ word
  pub rest_is : behind text ≡ rest

word_again : (n : ℕ) (text word rest : List ℕ) → text ≡ replicate n 32 ++ (word ++ rest) → HaveNoSpace word
    → word ≢ [] → IsApart rest → IsNext text word rest
unfolding word_at behind
word_again n text word rest e bytes some apart =
    let there : after_spaces text ≡ word ++ rest = ap after_spaces e ∙ spaces_over n (word ++ rest) ∙ no_spaces_over word rest bytes some in
    let found = front_of word rest bytes apart in
    record { word_is = ap front_word there ∙ found.0; rest_is = ap after_word there ∙ found.1 }

-- Where a second word stands there is a first.
no_word_if : (space : Bool) (b : ℕ) (bs : List ℕ) → (b == 32) ≡ space → (front_word (after_spaces bs) ≡ [] → after_word (after_spaces bs) ≡ [])
    → front_word (if space then after_spaces bs else b ∷ bs) ≡ [] → after_word (if space then after_spaces bs else b ∷ bs) ≡ []
no_word_if true b bs s rest h = rest h
no_word_if false b bs s rest h = let some : b ∷ front_word bs ≡ [] = rw s at h in cc

no_word : (text : List ℕ) → front_word (after_spaces text) ≡ [] → after_word (after_spaces text) ≡ []
no_word [] h = refl
no_word (b ∷ bs) h = no_word_if (b == 32) b bs refl (no_word bs) h

word_before : (text : List ℕ) → word_at (behind text) ≢ [] → word_at text ≢ []
unfolding word_at behind
word_before text second none = second (ap (λ t. front_word (after_spaces t)) (no_word text none))

-- ---- fields

-- The fields of a text are its first four words.
fields_are : (line : List ℕ) (fields : Fields) (tail : List ℕ) → SpellsWords IsWord line (field_words fields) tail → line_fields line ≡ fields
unfolding fourth_word line_fields
fields_are line fields tail w1 =
    let n1 = word_again w1.0 line fields.placement w1.1 w1.2 w1.3.1 w1.3.0 w1.4 in
    let w2 = w1.5 in
    let n2 = word_again w2.0 w1.1 fields.side w2.1 w2.2 w2.3.1 w2.3.0 w2.4 in
    let w3 = w2.5 in
    let n3 = word_again w3.0 w2.1 fields.castling w3.1 w3.2 w3.3.1 w3.3.0 w3.4 in
    let w4 = w3.5 in
    let n4 = word_again w4.0 w3.1 fields.target w4.1 w4.2 w4.3.1 w4.3.0 w4.4 in
    let r1 = n1.rest_is in
    let r2 : behind (behind line) ≡ w2.1 = ap behind r1 ∙ n2.rest_is in
    let r3 : behind (behind (behind line)) ≡ w3.1 = ap behind r2 ∙ n3.rest_is in
    let one = n1.word_is in
    let two : word_at (behind line) ≡ fields.side = ap word_at r1 ∙ n2.word_is in
    let three : word_at (behind (behind line)) ≡ fields.castling = ap word_at r2 ∙ n3.word_is in
    let four : word_at (behind (behind (behind line))) ≡ fields.target = ap word_at r3 ∙ n4.word_is in
    λ i. record { placement = one i; side = two i; castling = three i; target = four i }

flat : (p s c t tail : List ℕ) → (((p ++ (32 ∷ s)) ++ (32 ∷ c)) ++ (32 ∷ t)) ++ tail ≡ p ++ (32 ∷ (s ++ (32 ∷ (c ++ (32 ∷ (t ++ tail))))))
flat p s c t tail =
    append_assoc ((p ++ (32 ∷ s)) ++ (32 ∷ c)) (32 ∷ t) tail ∙ append_assoc (p ++ (32 ∷ s)) (32 ∷ c) (32 ∷ (t ++ tail))
    ∙ append_assoc p (32 ∷ s) (32 ∷ (c ++ (32 ∷ (t ++ tail))))

spelled_behind : (f : Fields) (tail : List ℕ) → IsWord f.placement → IsWord f.side → IsWord f.castling → IsWord f.target → IsApart tail
    → SpellsWords IsWord (four_text f ++ tail) (field_words f) tail
spelled_behind f tail a b c d apart = (
  0,
  32 ∷ (f.side ++ (32 ∷ (f.castling ++ (32 ∷ (f.target ++ tail))))),
  flat f.placement f.side f.castling f.target tail,
  a,
  refl,
  (
    1,
    32 ∷ (f.castling ++ (32 ∷ (f.target ++ tail))),
    refl,
    b,
    refl,
    (1, 32 ∷ (f.target ++ tail), refl, c, refl, (1, tail, refl, d, apart, refl)),
  ),
)

spelled_line : (line tail : List ℕ) → fourth_word line ≢ [] → IsApart tail
    → SpellsWords IsWord (four_text (line_fields line) ++ tail) (field_words (line_fields line)) tail
unfolding fourth_word line_fields
spelled_line line tail some4 apart =
    let some3 : word_at (behind (behind line)) ≢ [] = word_before (behind (behind line)) some4 in
    let some2 : word_at (behind line) ≢ [] = word_before (behind line) some3 in
    let some1 : word_at line ≢ [] = word_before line some2 in
    spelled_behind (line_fields line) tail (some1, word_no_space line) (some2, word_no_space (behind line))
    (some3, word_no_space (behind (behind line))) (some4, word_no_space (behind (behind (behind line)))) apart

pub fourth_some : (line : List ℕ) (f : Fields) → line_fields line ≡ f → f.target ≢ [] → fourth_word line ≢ []
unfolding line_fields
fourth_some line f is some none = some (ap (λ g. g.target) (sym is) ∙ none)

-- A text that begins with the fields of another has them.
pub kept_before : (line made : List ℕ) (f : Fields) → line_fields line ≡ f → f.target ≢ [] → IsBehindFields f made → line_fields made ≡ line_fields line
unfolding GoesOn
kept_before line made f is some (tail, apart, same) =
    let made_is : made ≡ four_text (line_fields line) ++ tail = same ∙ ap (λ g. four_text g ++ tail) (sym is) in
    ap line_fields made_is
    ∙ fields_are (four_text (line_fields line) ++ tail) (line_fields line) tail (spelled_line line tail (fourth_some line f is some) apart)

pub some_of : (xs : List ℕ) → (length xs == 0) ≡ false → xs ≢ []
some_of [] is = let no : true ≡ false = is in cc
some_of (x ∷ xs) is = λ none. cc

-- ---- what stands apart behind a text

apart_append : (a b : List ℕ) → IsApart a → IsApart b → IsApart (a ++ b)
apart_append [] b one other = other
apart_append (x ∷ xs) b one other = one

spells_append : (words : List (List ℕ)) (a b tail : List ℕ) → IsApart b → SpellsWords IsWord a words tail → SpellsWords IsWord (a ++ b) words (tail ++ b)
spells_append [] a b tail apart is = ap (λ t. t ++ b) is
spells_append (word ∷ words) a b tail apart (n, rest, is, one, behind', more) = (
  n,
  rest ++ b,
  ap (λ t. t ++ b) is ∙ append_assoc (replicate n 32) (word ++ rest) b ∙ ap (λ t. replicate n 32 ++ t) (append_assoc word rest b),
  one,
  apart_append rest b behind' apart,
  spells_append words rest b tail apart more,
)

pub fields_go_on : (a b : List ℕ) → IsRecord a → GoesOn a b → line_fields b ≡ line_fields a
unfolding GoesOn
fields_go_on a b (r, reads) (tail, apart, same) =
    ap line_fields same
    ∙ fields_are (a ++ tail) reads.fields (reads.tail ++ tail) (spells_append (field_words reads.fields) a tail reads.tail apart reads.words)
    ∙ sym (fields_are a reads.fields reads.tail reads.words)

pub nothing_behind : (text : List ℕ) → GoesOn text text
unfolding GoesOn
nothing_behind text = ([], tt, sym (append-nil text))

pub word_behind : (old new word : List ℕ) → new ≡ old ++ 32 ∷ word → GoesOn old new
unfolding GoesOn
word_behind old new word is = (32 ∷ word, refl, is)

pub behind_four : (f : Fields) (one two three four last : List ℕ) → one ≡ f.placement → two ≡ one ++ 32 ∷ f.side → three ≡ two ++ 32 ∷ f.castling
    → four ≡ three ++ 32 ∷ f.target → GoesOn four last → IsBehindFields f last
behind_four f one two three four last e1 e2 e3 e4 on =
    let is : four ≡ four_text f = e4 ∙ ap (λ t. t ++ 32 ∷ f.target) (e3 ∙ ap (λ t. t ++ 32 ∷ f.castling) (e2 ∙ ap (λ t. t ++ 32 ∷ f.side) e1)) in
    subst (λ t. GoesOn t last) is on

-- ---- a record's position

pub reads_position : (made : List ℕ) (r : RecordValue) → Reads made 3 r → SpellsSetup (line_fields made) r.position
reads_position made r reads =
    let P : Fields → Type 0 = λ f. SpellsSetup f r.position in
    subst P (sym (fields_are made reads.fields reads.tail reads.words)) reads.position

-- ---- what stands apart behind a text with four words

front_on : (a tail : List ℕ) → IsApart tail → front_word (a ++ tail) ≡ front_word a
front_on [] [] apart = refl
front_on [] (b ∷ tail) apart = rw apart refl
front_on (b ∷ bs) tail apart = ap (λ w. if b == 32 then [] else b ∷ w) (front_on bs tail apart)

rest_if : (space : Bool) (b : ℕ) (bs tail on : List ℕ) → on ≡ after_word bs ++ tail
    → (if space then b ∷ (bs ++ tail) else on) ≡ (if space then b ∷ bs else after_word bs) ++ tail
rest_if true b bs tail on is = refl
rest_if false b bs tail on is = is

rest_on : (a tail : List ℕ) → IsApart tail → after_word (a ++ tail) ≡ after_word a ++ tail
rest_on [] [] apart = refl
rest_on [] (b ∷ tail) apart = rw apart refl
rest_on (b ∷ bs) tail apart = rest_if (b == 32) b bs tail (after_word (bs ++ tail)) (rest_on bs tail apart)

spaces_if : (space : Bool) (b : ℕ) (bs tail : List ℕ) → (front_word (after_spaces bs) ≢ [] → after_spaces (bs ++ tail) ≡ after_spaces bs ++ tail)
    → front_word (if space then after_spaces bs else b ∷ bs) ≢ []
    → (if space then after_spaces (bs ++ tail) else b ∷ (bs ++ tail)) ≡ (if space then after_spaces bs else b ∷ bs) ++ tail
spaces_if true b bs tail on some = on some
spaces_if false b bs tail on some = refl

spaces_on : (a tail : List ℕ) → front_word (after_spaces a) ≢ [] → after_spaces (a ++ tail) ≡ after_spaces a ++ tail
spaces_on [] tail some = absurd (some refl)
spaces_on (b ∷ bs) tail some = spaces_if (b == 32) b bs tail (spaces_on bs tail) some

record IsOn (a b tail : List ℕ) : Type 0 where
  pub word_is : word_at b ≡ word_at a
  pub rest_is : behind b ≡ behind a ++ tail

word_on : (a b tail : List ℕ) → b ≡ a ++ tail → IsApart tail → word_at a ≢ [] → IsOn a b tail
unfolding word_at behind
word_on a b tail is apart some =
    let on : after_spaces b ≡ after_spaces a ++ tail = ap after_spaces is ∙ spaces_on a tail some in record {
      word_is = ap front_word on ∙ front_on (after_spaces a) tail apart;
      rest_is = ap after_word on ∙ rest_on (after_spaces a) tail apart;
    }

pub fields_on : (a b : List ℕ) → fourth_word a ≢ [] → GoesOn a b → line_fields b ≡ line_fields a
unfolding GoesOn fourth_word line_fields
fields_on a b some4 (tail, apart, is) =
    let some3 : word_at (behind (behind a)) ≢ [] = word_before (behind (behind a)) some4 in
    let some2 : word_at (behind a) ≢ [] = word_before (behind a) some3 in
    let on1 = word_on a b tail is apart (word_before a some2) in
    let on2 = word_on (behind a) (behind b) tail on1.rest_is apart some2 in
    let on3 = word_on (behind (behind a)) (behind (behind b)) tail on2.rest_is apart some3 in
    let on4 = word_on (behind (behind (behind a))) (behind (behind (behind b))) tail on3.rest_is apart some4 in
    λ i. record { placement = on1.word_is i; side = on2.word_is i; castling = on3.word_is i; target = on4.word_is i }

pub goes_on_on : (a b c : List ℕ) → GoesOn a b → GoesOn b c → GoesOn a c
unfolding GoesOn
goes_on_on a b c (tail, apart, is) (more, apart', is') =
    (tail ++ more, apart_append tail more apart apart', is' ∙ ap (λ t. t ++ more) is ∙ append_assoc a tail more)

pub word_longer : (old one new word rest : List ℕ) → one ≡ old ++ 32 ∷ word → new ≡ one ++ rest → GoesOn old new
unfolding GoesOn
word_longer old one new word rest is on = (32 ∷ (word ++ rest), refl, on ∙ ap (λ t. t ++ rest) is ∙ append_assoc old (32 ∷ word) rest)

pub longer_twice : (one two new a b : List ℕ) → two ≡ one ++ a → new ≡ two ++ b → new ≡ one ++ (a ++ b)
longer_twice one two new a b is on = on ∙ ap (λ t. t ++ b) is ∙ append_assoc one a b
