-- What a text asks, by its parts: a part that is a phrase asks so many moves, and any other that speaks of an aim isn't understood.
use Rattle.std.specs.Prelude.{ℕ, ◌==◌, List, [], ◌∷◌, Bool, true, false, Option, Some, None, ◌||◌, if◌then◌else◌}
use Rattle.stipulations.specs.declared.asked.Asked.{Asked}
use Rattle.stipulations.specs.declared.asked.Asked.TheVariants.{Nothing, Moves, Two, Unknown}
use Rattle.stipulations.specs.Aims.{speaks, speaks_plainly}
use Rattle.chess_board.specs.Characters.{char}
use Rattle.stipulations.specs.Parts.{parts_of, tidied}
use Rattle.stipulations.specs.Phrases.{in_phrase, in_words}
use Rattle.stipulations.specs.Signs.{has_parted_sign, has_twin}

-- what two texts ask together: the same number, however often it is said, or two; what isn't understood may change all the rest
abbrev pub both : Asked → Asked → Asked
both Nothing other = other
both Unknown other = Unknown
both (Moves m) Nothing = Moves m
both (Moves m) (Moves n) = if m == n then Moves m else Two
both (Moves m) Two = Two
both (Moves m) Unknown = Unknown
both Two Unknown = Unknown
both Two other = Two

abbrev pub moves_or : (phrase : Option ℕ) → (other : Asked) → Asked
moves_or (Some n) other = Moves n
moves_or None other = other

abbrev pub asked_by_part : (part : List ℕ) → Asked
asked_by_part part = if speaks part then moves_or (in_phrase (tidied part)) Unknown else Nothing

-- a part of a name of an author or a tourney
abbrev pub asked_by_part_of_name : (part : List ℕ) → Asked
asked_by_part_of_name part =
    if speaks part then moves_or (in_words (tidied part)) (if speaks_plainly part then Unknown else Nothing) else Nothing

-- what parts ask together, beside what others did
abbrev pub asked_beside : (List ℕ → Asked) → (others : Asked) → (parts : List (List ℕ)) → Asked
asked_beside asks others [] = others
asked_beside asks others (part ∷ parts) = asked_beside asks (both others (asks part)) parts

-- Neither twins are understood, nor the sign of another aim, cut off from the letters before it.
abbrev pub asked_before_parts : (text : List ℕ) → Asked
asked_before_parts text = if has_twin (char " ") text || has_parted_sign (char " ") text then Unknown else Nothing

unfoldable pub asked : (text : List ℕ) → Asked
asked text = asked_beside asked_by_part (asked_before_parts text) (parts_of text)

unfoldable pub asked_by_name : (text : List ℕ) → Asked
asked_by_name text = asked_beside asked_by_part_of_name Nothing (parts_of text)

abbrev pub asks_something : Asked → Bool
asks_something Nothing = false
asks_something other = true

-- A text speaks of an aim where it asks a number of moves, or more of them, or what isn't understood.
unfoldable pub speaks_of_aim : (text : List ℕ) → Bool
speaks_of_aim text = asks_something (asked text)
