-- A number between what stands before and behind it: small and large letters are alike (own to this project).
use Rattle.std.specs.Prelude.{ℕ, ◌==◌, List, [], ◌∷◌, Bool, true, false, Option, Some, None, if◌then◌else◌}
use Rattle.std.specs.Char.{is_ascii_alphabetic, is_ascii_digit, to_ascii_lowercase}
use Rattle.std.specs.List.{list_any}
use Rattle.stipulations.specs.declared.numbers.Language.{Language}
use Rattle.stipulations.specs.Numbers.{number, or_else}
use Rattle.stipulations.specs.Parts.{begins_with}

-- what stands behind a front, where a text begins with it
abbrev pub behind_front : (front text : List ℕ) → Option (List ℕ)
behind_front [] text = Some text
behind_front (f ∷ front) [] = None
behind_front (f ∷ front) (b ∷ text) = if f == to_ascii_lowercase b then behind_front front text else None

-- the longest run of such bytes with which a text begins, and what stands behind it
abbrev pub run : (ℕ → Bool) → (text : List ℕ) → List ℕ
run holds [] = []
run holds (b ∷ bs) = if holds b then b ∷ run holds bs else []

abbrev pub behind_run : (ℕ → Bool) → (text : List ℕ) → List ℕ
behind_run holds [] = []
behind_run holds (b ∷ bs) = if holds b then behind_run holds bs else b ∷ bs

-- the number with which a text begins: all its digits, or all the letters of its word; and what stands behind it
abbrev pub number_at : (text : List ℕ) → List ℕ
number_at text = if begins_with is_ascii_digit text then run is_ascii_digit text else run is_ascii_alphabetic text

abbrev pub behind_number : (text : List ℕ) → List ℕ
behind_number text = if begins_with is_ascii_digit text then behind_run is_ascii_digit text else behind_run is_ascii_alphabetic text

-- nothing is left behind a back
abbrev pub is_at_end : Option (List ℕ) → Bool
is_at_end None = false
is_at_end (Some []) = true
is_at_end (Some (b ∷ bs)) = false

abbrev pub is_back : (text back : List ℕ) → Bool
is_back text back = is_at_end (behind_front back text)

-- the number with which a text begins, where one of the backs follows, and nothing more
abbrev pub number_before : Language → (backs : List (List ℕ)) → (text : List ℕ) → Option ℕ
number_before language backs text =
    if list_any (is_back (behind_number text)) backs then number language (number_at text) else None

abbrev pub number_behind : Language → (backs : List (List ℕ)) → Option (List ℕ) → Option ℕ
number_behind language backs None = None
number_behind language backs (Some text) = number_before language backs text

-- the number between one of the fronts and one of the backs
abbrev pub number_between : Language → (fronts backs : List (List ℕ)) → (text : List ℕ) → Option ℕ
number_between language [] backs text = None
number_between language (front ∷ fronts) backs text =
    or_else (number_behind language backs (behind_front front text)) (number_between language fronts backs text)

-- where nothing stands before a number, or behind it
abbrev pub nothing : List (List ℕ)
nothing = [] ∷ []
