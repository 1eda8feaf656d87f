-- A word that is no text in UTF-8 is one of a line's words.
use Rattle.std.proofs.Common.{◌≡◌, ◌≢◌, ℕ, Bool, true, false, ◌&&◌, List, [], ◌∷◌, ◌++◌, filter, refl, ap, sym, ◌∙◌}
use Rattle.std.specs.List.{list_all}
use Rattle.std.specs.Str.{is_utf8, IsUtf8}
use Rattle.std.proofs.lemmas.Str.{is_utf8-from_IsUtf8, IsUtf8-from_is_utf8}
use Rattle.std.proofs.lemmas.List.Folds.{list_all-append}
use Rattle.uci_commands.specs.inside.LineWords.{is_some_word}

nothing_is_text : is_utf8 [] ≡ true
nothing_is_text = is_utf8-from_IsUtf8 [] ([], (refl, refl))

kept_there : (word : List ℕ) (rest : List (List ℕ)) → is_utf8 word ≡ false → list_all is_utf8 (filter is_some_word (word ∷ rest)) ≡ false
kept_there [] rest bad = absurd (true_no_false (sym nothing_is_text ∙ bad)) where
  true_no_false : true ≢ false
  true_no_false e = cc
kept_there (b ∷ bs) rest bad = rw bad refl

pub no_text : (word : List ℕ) → ¬ (IsUtf8 word) → is_utf8 word ≡ false
no_text word otherwise = (elim (is_utf8 word) as (λ b. is_utf8 word ≡ b → b ≡ false) [
  | true ↦ λ is. absurd (otherwise (IsUtf8-from_is_utf8 word is))
  | false ↦ λ is. refl
]) refl

and_false : (a : Bool) → (a && false) ≡ false
and_false true = refl
and_false false = refl

word_no_text : (words rest : List (List ℕ)) (word : List ℕ) → is_utf8 word ≡ false
    → list_all is_utf8 (words ++ filter is_some_word (word ∷ rest)) ≡ false
word_no_text words rest word bad =
    list_all-append is_utf8 words (filter is_some_word (word ∷ rest))
    ∙ ap (λ b. list_all is_utf8 words && b) (kept_there word rest bad) ∙ and_false (list_all is_utf8 words)

-- So they are not all texts.
pub not_all_texts : (all words parts rest : List (List ℕ)) (word : List ℕ) → words ++ filter is_some_word parts ≡ all
    → parts ≡ word ∷ rest → is_utf8 word ≡ false → list_all is_utf8 all ≡ false
not_all_texts all words parts rest word whole cut bad =
    ap (list_all is_utf8) (sym whole) ∙ ap (λ ps. list_all is_utf8 (words ++ filter is_some_word ps)) cut ∙ word_no_text words rest word bad
