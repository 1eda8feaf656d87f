-- What escaping, and the letters of shapes, are meant to do.
use Rattle.std.specs.Prelude.{◌≡◌, ℕ, ◌==◌, ◌&&◌, ◌||◌, List, [], ◌∷◌, codes, Bool, true, false, not}
use Rattle.std.specs.List.{list_any}
use Rattle.chess_board.specs.Characters.{char}
use Rattle.chess_board.specs.declared.men.Man.{Man}
use Rattle.problem_sheets.specs.Diagrams.{letter_text}
use Rattle.problem_sheets.specs.Escaping.{escaped}

-- angle brackets and quotation marks
abbrev pub is_markup : ℕ → Bool
is_markup b = (b == char "<") || (b == char ">") || (b == char "\"") || (b == char "'")

-- The text begins with this one.
abbrev pub begins_with : List ℕ → List ℕ → Bool
begins_with [] text = true
begins_with (b ∷ bs) [] = false
begins_with (b ∷ bs) (c ∷ cs) = (b == c) && begins_with bs cs

-- The text begins with a character reference.
abbrev pub begins_reference : List ℕ → Bool
begins_reference text =
    begins_with (codes "&amp;") text || begins_with (codes "&lt;") text || begins_with (codes "&gt;") text || begins_with (codes "&quot;") text
    || begins_with (codes "&#39;") text

-- Each ampersand begins one.
abbrev pub are_references : List ℕ → Bool
are_references [] = true
are_references (b ∷ bs) = (not (b == char "&") || begins_reference (b ∷ bs)) && are_references bs

abbrev pub NoMarkup : Type 0
NoMarkup = (text : List ℕ) → list_any is_markup (escaped text) ≡ false

abbrev pub EachReferred : Type 0
EachReferred = (text : List ℕ) → are_references (escaped text) ≡ true

-- No two men's shapes are called by one letter.
abbrev pub LettersApart : Type 0
LettersApart = (a b : Man) → letter_text a ≡ letter_text b → a ≡ b
