-- Replies that are refused name no code.
use Rattle.std.proofs.Common.{◌≡◌, ◌∙◌, ◌||◌, ◌++◌, Bool, true, false, cond, List, [], ◌∷◌, ℕ, Option, None, Some, ap, flat_map, map, refl, sym}
use Rattle.std.specs.Borrow.{Bor}
use Rattle.std.specs.List.{find, list_any}
use Rattle.std.specs.Str.{str_eq_ignore_ascii_case}
use Rattle.fault_explanations.specs.declared.explanations.Explanation.{Explanation}
use Rattle.fault_explanations.specs.Explained.{AreOfKnown, ExplainsEach, codes_of, explanation_in, explanation_of, named, named_in, one_or_none, or_else, words_of}
use Rattle.fault_explanations.specs.Laws.{NoCodeRefused, is_code}

abbrev is_among : List ℕ → List (List ℕ) → Bool
is_among word codes = list_any (λ code. str_eq_ignore_ascii_case code word) codes

-- ---- lists and tests

neither : (a b : Bool) → (a || b) ≡ false → (a ≡ false) × (b ≡ false)
neither true b none = cc
neither false b none = (refl, none)

no_first : (a b : Bool) → a ≡ false → b ≡ false → (a || b) ≡ false
no_first true b none rest = cc
no_first false b none rest = rest

any_append : {X : Type 0} (test : X → Bool) (xs ys : List X) → list_any test xs ≡ false → list_any test ys ≡ false → list_any test (xs ++ ys) ≡ false
any_append test [] ys first rest = rest
any_append test (x ∷ xs) ys first rest =
    let (here, others) = neither (test x) (list_any test xs) first in
    no_first (test x) (list_any test (xs ++ ys)) here (any_append test xs ys others rest)

both_empty : {X : Type 0} (xs ys : List X) → xs ++ ys ≡ [] → (xs ≡ []) × (ys ≡ [])
both_empty [] ys empty = (refl, empty)
both_empty (x ∷ xs) ys empty = cc

-- ---- what is not found is no code

by_test : (e : Explanation) (b : Bool) (o : Option Explanation) (rest : Bool) → (o ≡ None → rest ≡ false) → cond b (Some e) o ≡ None → (b || rest) ≡ false
by_test e true o rest others none = cc
by_test e false o rest others none = others none

none_in : (es : List Explanation) (word : List ℕ) → explanation_in es word ≡ None → is_among word (codes_of es) ≡ false
unfolding explanation_in
none_in [] word none = refl
none_in (e ∷ es) word none =
    by_test e (str_eq_ignore_ascii_case e.code.now word) (find (λ x. str_eq_ignore_ascii_case x.code.now word) es) (is_among word (codes_of es))
    (none_in es word) none

by_group : (o p : Option Explanation) (a b : Bool) → (o ≡ None → a ≡ false) → (p ≡ None → b ≡ false) → or_else o p ≡ None → (a || b) ≡ false
by_group None p a b first rest none = no_first a b (first refl) (rest none)
by_group (Some e) p a b first rest none = cc

none_of : (groups : List (Bor (List Explanation))) (word : List ℕ) → explanation_of groups word ≡ None
    → list_any (is_among word) (map (λ g. codes_of g.now) groups) ≡ false
none_of [] word none = refl
none_of (g ∷ groups) word none =
    by_group (explanation_in g.now word) (explanation_of groups word) (is_among word (codes_of g.now))
    (list_any (is_among word) (map (λ g. codes_of g.now) groups)) (none_in g.now word) (none_of groups word) none

-- ---- of words and of replies

none_one : (o : Option Explanation) → one_or_none o ≡ [] → o ≡ None
none_one None none = refl
none_one (Some e) none = cc

none_named : (groups : List (Bor (List Explanation))) → AreOfKnown groups → (words : List (List ℕ)) → named groups words ≡ []
    → list_any is_code words ≡ false
unfolding named
none_named groups known [] none = refl
none_named groups known (word ∷ words) none =
    let (here, rest) = both_empty (one_or_none (explanation_of groups word)) (named groups words) none in
    no_first (is_code word) (list_any is_code words)
    (ap (list_any (is_among word)) (sym known) ∙ none_of groups word (none_one (explanation_of groups word) here)) (none_named groups known words rest)

none_in_any : (groups : List (Bor (List Explanation))) → AreOfKnown groups → (replies : List (List ℕ)) → named_in groups replies ≡ []
    → list_any is_code (flat_map words_of replies) ≡ false
unfolding named_in
none_in_any groups known [] none = refl
none_in_any groups known (reply ∷ replies) none =
    let (here, rest) = both_empty (named groups (words_of reply)) (named_in groups replies) none in
    any_append is_code (words_of reply) (flat_map words_of replies) (none_named groups known (words_of reply) here)
    (none_in_any groups known replies rest)

refused_none : (es : List Explanation) (text : List ℕ) → ExplainsEach es true text → es ≡ []
refused_none [] text is = refl
refused_none (e ∷ es) text never = absurd never

pub no_code_refused : NoCodeRefused
no_code_refused reply replies text (groups, known, each) =
    none_in_any groups known (reply ∷ replies) (refused_none (named_in groups (reply ∷ replies)) text each)
