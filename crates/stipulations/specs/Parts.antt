-- The parts of a text: it is cut where a sentence ends, or a piece of one (own to this project).
use Rattle.std.specs.Prelude.{ℕ, ◌==◌, List, [], ◌∷◌, ◌++◌, Bool, false, not, ◌||◌, ◌&&◌, if◌then◌else◌}
use Rattle.std.specs.Char.{is_ascii_digit}
use Rattle.chess_board.specs.Characters.{char}

abbrev pub begins_with : (ℕ → Bool) → List ℕ → Bool
begins_with holds [] = false
begins_with holds (b ∷ bs) = holds b

abbrev pub is_space : ℕ → Bool
is_space b = b == char " "

-- These end a part wherever they stand; 34 is the quotation mark.
abbrev pub is_mark : ℕ → Bool
is_mark b = (b == char ";") || (b == char ":") || (b == 34) || (b == char "(") || (b == char ")") || (b == char "!")

-- a full stop or a comma, unless a digit follows at once: 2.5 is one number
abbrev pub is_stop : ℕ → (behind : List ℕ) → Bool
is_stop b behind = ((b == char ".") || (b == char ",")) && not (begins_with is_ascii_digit behind)

-- a hyphen with a space on each side
abbrev pub is_dash : (before b : ℕ) → (behind : List ℕ) → Bool
is_dash before b behind = is_space before && (b == char "-") && begins_with is_space behind

-- A part ends at a byte, between the byte before it and the text behind it.
abbrev pub ends_part : (before b : ℕ) → (behind : List ℕ) → Bool
ends_part before b behind = is_mark b || is_stop b behind || is_dash before b behind

-- what has ended, unless there is nothing in it
abbrev pub closed : List ℕ → List (List ℕ)
closed [] = []
closed (b ∷ bs) = (b ∷ bs) ∷ []

-- the parts of a text behind what there is of a part already; where one begins, the byte before it is taken for a space
abbrev pub parts_behind : (part : List ℕ) → (before : ℕ) → (text : List ℕ) → List (List ℕ)
parts_behind part before [] = closed part
parts_behind part before (b ∷ bs) =
    if ends_part before b bs then closed part ++ parts_behind [] (char " ") bs else parts_behind (part ++ b ∷ []) b bs

unfoldable pub parts_of : List ℕ → List (List ℕ)
parts_of text = parts_behind [] (char " ") text

abbrev pub trimmed : List ℕ → List ℕ
trimmed [] = []
trimmed (b ∷ bs) = if is_space b then trimmed bs else b ∷ bs

-- a text behind one space, where it isn't empty and doesn't begin with one
abbrev pub behind_space : List ℕ → List ℕ
behind_space [] = []
behind_space (b ∷ bs) = if is_space b then b ∷ bs else char " " ∷ b ∷ bs

-- each run of spaces one space, and none at the end
abbrev pub squeezed : List ℕ → List ℕ
squeezed [] = []
squeezed (b ∷ bs) = if is_space b then behind_space (squeezed bs) else b ∷ squeezed bs

-- each run of spaces one space, and none at either end
abbrev pub tidied : List ℕ → List ℕ
tidied part = squeezed (trimmed part)
