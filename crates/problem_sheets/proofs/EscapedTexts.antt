-- What is left of markup in a text that is escaped: nothing.
use Rattle.std.proofs.Common.{◌≡◌, ◌∙◌, ◌==◌, ◌&&◌, ◌||◌, ◌++◌, not, ℕ, Bool, true, false, List, [], ◌∷◌, refl}
use Rattle.std.specs.List.{list_any}
use Rattle.problem_sheets.specs.Escaping.{escaped, escaped_byte}
use Rattle.problem_sheets.specs.Laws.{EachReferred, NoMarkup, are_references, begins_reference, is_markup}

any_append : (xs ys : List ℕ) → list_any is_markup (xs ++ ys) ≡ (list_any is_markup xs || list_any is_markup ys)
any_append [] ys = refl
any_append (x ∷ xs) ys = go (is_markup x) (any_append xs ys)
  where
    go : (b : Bool) → list_any is_markup (xs ++ ys) ≡ (list_any is_markup xs || list_any is_markup ys)
        → (b || list_any is_markup (xs ++ ys)) ≡ ((b || list_any is_markup xs) || list_any is_markup ys)
    go true rest = refl
    go false rest = rest

plain_byte : (b : ℕ) → (b == 60) ≡ false → (b == 62) ≡ false → (b == 34) ≡ false → (b == 39) ≡ false
    → (((b == 60) || (b == 62) || (b == 34) || (b == 39)) || false) ≡ false
plain_byte b l g q s = rw (l, g, q, s) refl

no_markup_byte : (b : ℕ) → list_any is_markup (escaped_byte b) ≡ false
no_markup_byte b = go (b == 38) (b == 60) (b == 62) (b == 34) (b == 39) refl refl refl refl refl
  where
    go : (amp lt gt quot apos : Bool) → (b == 38) ≡ amp → (b == 60) ≡ lt → (b == 62) ≡ gt → (b == 34) ≡ quot → (b == 39) ≡ apos
        → list_any is_markup (escaped_byte b) ≡ false
    go true lt gt quot apos a l g q s = rw a refl
    go false true gt quot apos a l g q s = rw (a, l) refl
    go false false true quot apos a l g q s = rw (a, l, g) refl
    go false false false true apos a l g q s = rw (a, l, g, q) refl
    go false false false false true a l g q s = rw (a, l, g, q, s) refl
    go false false false false false a l g q s = rw (a, l, g, q, s) (plain_byte b l g q s)

pub no_markup : NoMarkup
no_markup [] = refl
no_markup (b ∷ bs) = any_append (escaped_byte b) (escaped bs) ∙ rw (no_markup_byte b, no_markup bs) refl

plain_rest : (b : ℕ) (rest : List ℕ) → (b == 38) ≡ false
    → ((not (b == 38) || begins_reference (b ∷ rest)) && are_references rest) ≡ are_references rest
plain_rest b rest a = rw a refl

referred_byte : (b : ℕ) (rest : List ℕ) → are_references (escaped_byte b ++ rest) ≡ are_references rest
referred_byte b rest = go (b == 38) (b == 60) (b == 62) (b == 34) (b == 39) refl refl refl refl refl
  where
    go : (amp lt gt quot apos : Bool) → (b == 38) ≡ amp → (b == 60) ≡ lt → (b == 62) ≡ gt → (b == 34) ≡ quot → (b == 39) ≡ apos
        → are_references (escaped_byte b ++ rest) ≡ are_references rest
    go true lt gt quot apos a l g q s = rw a refl
    go false true gt quot apos a l g q s = rw (a, l) refl
    go false false true quot apos a l g q s = rw (a, l, g) refl
    go false false false true apos a l g q s = rw (a, l, g, q) refl
    go false false false false true a l g q s = rw (a, l, g, q, s) refl
    go false false false false false a l g q s = rw (a, l, g, q, s) (plain_rest b rest a)

pub each_referred : EachReferred
each_referred [] = refl
each_referred (b ∷ bs) = referred_byte b (escaped bs) ∙ each_referred bs
