-- The words of a line, taken off from its front: a word is a longest run of bytes other than space.
use Rattle.std.specs.Prelude.{ℕ, ◌==◌, List, [], ◌∷◌, filter, Bool, true, false, not, if◌then◌else◌}
use Rattle.std.specs.List.{slice_split}
use Rattle.chess_board.specs.Characters.{char}

-- the text from its first byte that is no space
abbrev pub after_spaces : List ℕ → List ℕ
after_spaces [] = []
after_spaces (b ∷ bs) = if b == char " " then after_spaces bs else b ∷ bs

-- the text up to its first space
abbrev pub front_word : List ℕ → List ℕ
front_word [] = []
front_word (b ∷ bs) = if b == char " " then [] else b ∷ front_word bs

-- the text from its first space on
abbrev pub after_word : List ℕ → List ℕ
after_word [] = []
after_word (b ∷ bs) = if b == char " " then b ∷ bs else after_word bs

-- the first word of a text, and what follows it
unfoldable pub word_at : List ℕ → List ℕ
word_at text = front_word (after_spaces text)

unfoldable pub behind : List ℕ → List ℕ
behind text = after_word (after_spaces text)

abbrev pub is_empty_text : List ℕ → Bool
is_empty_text [] = true
is_empty_text (b ∷ bs) = false

-- nothing but spaces
abbrev pub is_blank : List ℕ → Bool
is_blank text = is_empty_text (after_spaces text)

-- the words of a text: what stands between its spaces, where that is something
unfoldable pub words_in : List ℕ → List (List ℕ)
words_in text = filter (λ word. not (is_empty_text word)) (slice_split (λ b. b == char " ") text)
