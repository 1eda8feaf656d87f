-- A number of moves that a comma, a parenthesis or the like has cut off from the one before it: `or 3`, `3 or 4`, `3 moves` (own to this project).
use Rattle.std.specs.Prelude.{ℕ, ◌==◌, List, [], ◌∷◌, codes, Bool, false, is_some, not, ◌||◌, ◌&&◌}
use Rattle.std.specs.List.{list_any}
use Rattle.std.specs.Str.{str_eq_ignore_ascii_case}
use Rattle.chess_board.specs.Characters.{char}
use Rattle.stipulations.specs.declared.numbers.Language.TheVariants.{English, German, French, Spanish, Italian, Dutch, Polish, Russian}
use Rattle.stipulations.specs.Numbers.{number}
use Rattle.stipulations.specs.Parts.{is_space}
use Rattle.stipulations.specs.Patterns.{run}

-- what stands beside numbers of moves, and between two
abbrev pub words_beside : List (List ℕ)
words_beside =
    codes "or" ∷ codes "oder" ∷ codes "ou" ∷ codes "o" ∷ codes "of" ∷ codes "lub" ∷ codes "ili" ∷ codes "bzw" ∷ codes "to" ∷ codes "bis"
    ∷ codes "move" ∷ codes "moves" ∷ codes "zug" ∷ codes "zuge" ∷ codes "zuege" ∷ codes "zugen" ∷ codes "zuegen" ∷ codes "coup"
    ∷ codes "coups" ∷ codes "jugada" ∷ codes "jugadas" ∷ codes "movimientos" ∷ codes "mossa" ∷ codes "mosse" ∷ codes "zet"
    ∷ codes "zetten" ∷ codes "posuniec" ∷ codes "posunieciach" ∷ codes "khod" ∷ codes "khoda" ∷ codes "khodov" ∷ []

unfoldable pub is_beside : (word : List ℕ) → Bool
is_beside word = list_any (λ other. str_eq_ignore_ascii_case word other) words_beside

-- in digits, or in a word of any language
unfoldable pub is_number : (word : List ℕ) → Bool
is_number word =
    is_some (number English word) || is_some (number German word) || is_some (number French word) || is_some (number Spanish word)
    || is_some (number Italian word) || is_some (number Dutch word) || is_some (number Polish word) || is_some (number Russian word)

abbrev pub is_neither : (word : List ℕ) → Bool
is_neither word = not (is_number word || is_beside word)

-- Words here are the longest runs of bytes other than these.
abbrev pub is_gap : ℕ → Bool
is_gap b = is_space b || (b == char ",") || (b == char "?") || (b == char "/")

abbrev pub is_inside : ℕ → Bool
is_inside b = not (is_gap b)

-- Of the words of a text one is such; a word begins behind a gap.
abbrev pub any_word : (List ℕ → Bool) → (before : ℕ) → (text : List ℕ) → Bool
any_word is before [] = false
any_word is before (b ∷ bs) = is_gap before && is_inside b && is (run is_inside (b ∷ bs)) || any_word is b bs

-- Numbers of moves and words that stand beside them, at least one of each, and no other word.
unfoldable pub says_other_number : (part : List ℕ) → Bool
says_other_number part = any_word is_number (char " ") part && any_word is_beside (char " ") part && not (any_word is_neither (char " ") part)
