-- The words of a text: its longest runs of letters of ASCII.
use Rattle.std.specs.Prelude.{ℕ, List, [], ◌∷◌, ◌++◌, if◌then◌else◌}
use Rattle.std.specs.Char.{is_ascii_alphabetic}
use Rattle.stipulations.specs.Parts.{closed}

-- the words of a text behind what there is of a word already
abbrev pub words_behind : (word text : List ℕ) → List (List ℕ)
words_behind word [] = closed word
words_behind word (b ∷ bs) = if is_ascii_alphabetic b then words_behind (word ++ b ∷ []) bs else closed word ++ words_behind [] bs

unfoldable pub words_of : List ℕ → List (List ℕ)
words_of text = words_behind [] text
