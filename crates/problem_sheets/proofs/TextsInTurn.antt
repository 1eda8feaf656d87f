-- Texts added in turn, one for each item of a list.
use Rattle.std.proofs.Common.{◌≡◌, ◌∙◌, ℕ, ◌+◌, ◌<◌, ◌≤◌, List, ◌++◌, length, take, get_or, ap, sym, append-nil, append_assoc}
use Rattle.std.specs.List.{flat_map}
use Rattle.std.proofs.lemmas.List.{flat_map_more, take_all, take_more}

pub turn_none : (f : ℕ → List ℕ) (old xs : List ℕ) → old ≡ old ++ flat_map f (take 0 xs)
turn_none f old xs = sym (append-nil old)

pub turn_more : (f : ℕ → List ℕ) (old before after xs : List ℕ) (n : ℕ) → n < length xs → before ≡ old ++ flat_map f (take n xs)
    → after ≡ before ++ f (get_or xs n 0) → after ≡ old ++ flat_map f (take (n + 1) xs)
turn_more f old before after xs n inside first next =
    next ∙ ap (λ t. t ++ f (get_or xs n 0)) first ∙ flat_map_more f old (take n xs) (get_or xs n 0)
    ∙ ap (λ t. old ++ flat_map f t) (sym (take_more xs n 0 inside))

pub turn_all : (f : ℕ → List ℕ) (old after xs : List ℕ) (n : ℕ) → length xs ≤ n → after ≡ old ++ flat_map f (take n xs)
    → after ≡ old ++ flat_map f xs
turn_all f old after xs n past is = is ∙ ap (λ t. old ++ flat_map f t) (take_all n xs past)

-- words and a number, twice, and words
pub two_counted : (t a d b e z first second third : List ℕ) → first ≡ t ++ a ++ d → second ≡ first ++ b ++ e → third ≡ second ++ z
    → third ≡ t ++ (a ++ d ++ b ++ e ++ z)
two_counted t a d b e z first second third one two three =
    three ∙ ap (λ x. x ++ z) two ∙ ap (λ x. x ++ b ++ e ++ z) one
    ∙ ap (λ x. x ++ b ++ e ++ z) (append_assoc t a d) ∙ ap (λ x. x ++ e ++ z) (append_assoc t (a ++ d) b)
    ∙ ap (λ x. x ++ z) (append_assoc t (a ++ d ++ b) e) ∙ append_assoc t (a ++ d ++ b ++ e) z
