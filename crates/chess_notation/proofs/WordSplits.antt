-- A text is spaces, a word and what follows it, and a word that is spelled so is found.
use Rattle.std.proofs.Common.{◌≡◌, ◌≢◌, ℕ, zero, suc, ◌==◌, List, [], ◌∷◌, ◌++◌, Bool, true}
use Rattle.std.proofs.Common.{false, refl, ap, sym, ◌∙◌, arith, replicate, if◌then◌else◌}
use Rattle.std.proofs.lemmas.Bool.Decides.{nat_tests}
use Rattle.std.proofs.lemmas.Bool.{and_parts, eqb-true}
use Rattle.std.proofs.lemmas.List.{append-nil}
use Rattle.std.proofs.lemmas.List.Folds.{list_all-append}
use Rattle.std.specs.List.{list_all}
use Rattle.chess_notation.specs.Words.{after_spaces, front_word, after_word, word_at, behind, is_empty_text, is_blank}
use Rattle.chess_notation.specs.Records.{HaveNoSpace, IsApart}

pub not_byte : (a b : ℕ) → a ≢ b → (a == b) ≡ false
not_byte a b other = grind (arith, nat_tests)

spaces_split_at : (space : Bool) (b : ℕ) (bs : List ℕ) → (b == 32) ≡ space → ((n : ℕ) × (bs ≡ replicate n 32 ++ after_spaces bs))
    → (n : ℕ) × (b ∷ bs ≡ replicate n 32 ++ after_spaces (b ∷ bs))
spaces_split_at true b bs s rest = (suc rest.0, rw s (ap (λ x. x ∷ bs) (eqb-true b 32 s) ∙ ap (λ t. 32 ∷ t) rest.1))
spaces_split_at false b bs s rest = (0, rw s refl)

spaces_split : (text : List ℕ) → (n : ℕ) × (text ≡ replicate n 32 ++ after_spaces text)
spaces_split [] = (0, refl)
spaces_split (b ∷ bs) = spaces_split_at (b == 32) b bs refl (spaces_split bs)

word_split_at : (space : Bool) (b : ℕ) (bs : List ℕ) → (b == 32) ≡ space → bs ≡ front_word bs ++ after_word bs
    → b ∷ bs ≡ front_word (b ∷ bs) ++ after_word (b ∷ bs)
word_split_at true b bs s rest = rw s refl
word_split_at false b bs s rest = rw s (ap (λ t. b ∷ t) rest)

word_split : (text : List ℕ) → text ≡ front_word text ++ after_word text
word_split [] = refl
word_split (b ∷ bs) = word_split_at (b == 32) b bs refl (word_split bs)

after_word_apart_at : (space : Bool) (b : ℕ) (bs : List ℕ) → (b == 32) ≡ space → IsApart (after_word bs)
    → IsApart (if space then b ∷ bs else after_word bs)
after_word_apart_at true b bs s rest = eqb-true b 32 s
after_word_apart_at false b bs s rest = rest

after_word_apart : (text : List ℕ) → IsApart (after_word text)
after_word_apart [] = tt
after_word_apart (b ∷ bs) = after_word_apart_at (b == 32) b bs refl (after_word_apart bs)

pub words_split : (text : List ℕ) → (n : ℕ) × (text ≡ replicate n 32 ++ (word_at text ++ behind text)) × IsApart (behind text)
unfolding word_at behind
words_split text =
    let spaces = spaces_split text in
    (spaces.0, spaces.1 ∙ ap (λ t. replicate spaces.0 32 ++ t) (word_split (after_spaces text)), after_word_apart (after_spaces text))

no_space_if : (space : Bool) (b : ℕ) (word : List ℕ) → (b == 32) ≡ space → HaveNoSpace word → HaveNoSpace (if space then [] else b ∷ word)
no_space_if true b word s later = tt
no_space_if false b word s later = ((λ e. (grind (arith, nat_tests))), later)

front_no_space : (text : List ℕ) → HaveNoSpace (front_word text)
front_no_space [] = tt
front_no_space (b ∷ bs) = no_space_if (b == 32) b (front_word bs) refl (front_no_space bs)

pub word_no_space : (text : List ℕ) → HaveNoSpace (word_at text)
unfolding word_at
word_no_space text = front_no_space (after_spaces text)

-- What holds of all bytes of a text holds of those of its first word and of those behind it.
pub both_parts : (p : ℕ → Bool) (xs ys : List ℕ) → list_all p (xs ++ ys) ≡ true → (list_all p xs ≡ true) × (list_all p ys ≡ true)
both_parts p xs ys h = and_parts (list_all p xs) (list_all p ys) (sym (list_all-append p xs ys) ∙ h)

pub all_behind : (p : ℕ → Bool) (text : List ℕ) → list_all p text ≡ true → list_all p (behind text) ≡ true
all_behind p text h =
    let split = words_split text in
    (both_parts p (word_at text) (behind text)
    (both_parts p (replicate split.0 32) (word_at text ++ behind text) (sym (ap (list_all p) split.1) ∙ h)).1).1

-- A blank text is spaces.
pub spaces_blank : (n : ℕ) → is_blank (replicate n 32) ≡ true
spaces_blank zero = refl
spaces_blank (suc n) = spaces_blank n

pub blank_is_spaces : (text : List ℕ) → is_blank text ≡ true → (n : ℕ) × (text ≡ replicate n 32)
blank_is_spaces text h =
    let split = spaces_split text in
    let none : after_spaces text ≡ [] = empty_is (after_spaces text) h in
    (split.0, split.1 ∙ ap (λ t. replicate split.0 32 ++ t) none ∙ append-nil (replicate split.0 32)) where
      empty_is : (t : List ℕ) → is_empty_text t ≡ true → t ≡ []
      empty_is [] h = refl
      empty_is (b ∷ bs) h = cc

-- A word and what stands apart behind it are found again.
front_of : (word rest : List ℕ) → HaveNoSpace word → IsApart rest → (front_word (word ++ rest) ≡ word) × (after_word (word ++ rest) ≡ rest)
front_of [] [] bytes apart = (refl, refl)
front_of [] (b ∷ rest) bytes apart = rw apart (refl, refl)
front_of (b ∷ bs) rest bytes apart =
    let no_space : (b == 32) ≡ false = not_byte b 32 bytes.0 in
    let again = front_of bs rest bytes.1 apart in
    (rw no_space (ap (λ t. b ∷ t) again.0), rw no_space again.1)

pub spaces_over : (n : ℕ) (text : List ℕ) → after_spaces (replicate n 32 ++ text) ≡ after_spaces text
spaces_over zero text = refl
spaces_over (suc n) text = spaces_over n text

no_spaces_over : (word rest : List ℕ) → HaveNoSpace word → word ≢ [] → after_spaces (word ++ rest) ≡ word ++ rest
no_spaces_over [] rest bytes some = absurd (some refl)
no_spaces_over (b ∷ bs) rest bytes some = let no_space : (b == 32) ≡ false = not_byte b 32 bytes.0 in rw no_space refl

-- One word is read as it is spelled.
pub record IsNext (text word rest : List ℕ) : Type 0 where
  pub word_is : word_at text ≡ word
  pub rest_is : behind text ≡ rest

pub word_again : (n : ℕ) (text word rest : List ℕ) → text ≡ replicate n 32 ++ (word ++ rest) → HaveNoSpace word
    → word ≢ [] → IsApart rest → IsNext text word rest
unfolding word_at behind
word_again n text word rest e bytes some apart =
    let there : after_spaces text ≡ word ++ rest = ap after_spaces e ∙ spaces_over n (word ++ rest) ∙ no_spaces_over word rest bytes some in
    let found = front_of word rest bytes apart in
    record { word_is = ap front_word there ∙ found.0; rest_is = ap after_word there ∙ found.1 }
