-- What a problem says in a file of Olive's (`.olv`, the YAML of YACPDB; own to this project): keys with colons, and items behind each, in brackets
-- or behind hyphens, with Popeye's letters for the men. What is said is listed from the last to the first.
use Rattle.std.specs.Prelude.{ℕ, ◌-◌, ◌==◌, nat_lt, List, [], ◌∷◌, codes, length, map, take, slice_index_or}
use Rattle.std.specs.Prelude.{Bool, true, false, ◌&&◌, ◌||◌, Option, Some, None, if◌then◌else◌}
use Rattle.std.specs.Str.{bytes_eq}
use Rattle.chess_board.specs.Characters.{char}
use Rattle.chess_board.specs.declared.men.Colour.TheVariants as colour
use Rattle.chess_board.specs.declared.men.Man.{Man}
use Rattle.chess_notation.specs.Words.{behind, word_at, words_in}
use Rattle.stipulations.specs.Stipulations.{asked}
use Rattle.stipulations.specs.declared.asked.Asked.{Asked}
use Rattle.stipulations.specs.declared.asked.Asked.TheVariants as asks
use Rattle.problem_import.specs.PopeyeProblems.{man_said, or_man}
use Rattle.problem_import.specs.declared.olive.Section.{Section}
use Rattle.problem_import.specs.declared.olive.Section.TheVariants.{Other, Authors, Source, Date, Men, White, Black, Neutral, Stipulation, Options}
use Rattle.problem_import.specs.declared.olive.Section.TheVariants.{Conditions, Twins, Solution}

-- a key, or an item behind one
pub data Said : Type 0 where
  key : List ℕ → Said
  item : List ℕ → Said

-- ---- sections

abbrev pub is_of_men : Section → Bool
is_of_men Men = true
is_of_men White = true
is_of_men Black = true
is_of_men Neutral = true
is_of_men _ = false

abbrev pub is_key : List ℕ → (name : List ℕ) → Bool
is_key word name = bytes_eq word name

-- what stands before play in a solution, as keys do elsewhere
abbrev pub is_before_play : List ℕ → Bool
is_before_play word = is_key word (codes "threat") || (is_key word (codes "threats") || is_key word (codes "but"))

-- Within twins any other key is one of theirs; a solution is ended by one.
abbrev pub keeps_key : Section → (word : List ℕ) → Bool
keeps_key Twins word = true
keeps_key Solution word = is_before_play word
keeps_key _ word = false

-- what stands behind a key, where such a section was before
unfoldable pub section_of : (word : List ℕ) → (before : Section) → Section
section_of word before =
    if is_of_men before && is_key word (codes "white") then White
    else (if is_of_men before && is_key word (codes "black") then Black
    else (if is_of_men before && is_key word (codes "neutral") then Neutral
    else (if is_key word (codes "authors") || is_key word (codes "author") then Authors
    else (if is_key word (codes "source") then Source
    else (if is_key word (codes "date") then Date
    else (if is_key word (codes "algebraic") then Men
    else (if is_key word (codes "stipulation") then Stipulation
    else (if is_key word (codes "options") then Options
    else (if is_key word (codes "conditions") then Conditions
    else (if is_key word (codes "twins") then Twins
    else (if is_key word (codes "solution") then Solution
    else (if is_key word (codes "keywords") then Other
    else (if keeps_key before word then before else Other)))))))))))))

-- the section that is open
abbrev pub section_after : List Said → Section
section_after [] = Other
section_after ((key word) ∷ said) = section_of word (section_after said)
section_after ((item word) ∷ said) = section_after said

-- ---- lines

-- The word is a key with its colon.
abbrev pub has_colon : List ℕ → Bool
has_colon word = nat_lt 0 (length word) && (slice_index_or word (length word - 1) 0 == char ":")

-- Brackets, commas and quotation marks stand between items, as spaces do.
abbrev pub without_mark : ℕ → ℕ
without_mark b =
    if (b == char ",") || ((b == char "[") || ((b == char "]") || ((b == char "\"") || (b == char "'")))) then char " " else b

-- what stands behind the key of a line, or behind a hyphen; or the line
abbrev pub value_of : (line : List ℕ) → List ℕ
value_of line = if has_colon (word_at line) || bytes_eq (word_at line) (codes "-") then behind line else line

abbrev pub key_onto : (line : List ℕ) → List Said → List Said
key_onto line said = if has_colon (word_at line) then key (take (length (word_at line) - 1) (word_at line)) ∷ said else said

abbrev pub items_onto : (words : List (List ℕ)) → List Said → List Said
items_onto [] said = said
items_onto (word ∷ words) said = items_onto words (item word ∷ said)

-- what a line says, put before what was said
abbrev pub line_onto : (line : List ℕ) → List Said → List Said
line_onto line said = items_onto (words_in (map without_mark (value_of line))) (key_onto line said)

-- ---- the problem

-- the man that an item puts on a square
abbrev pub man_in : Section → (word : List ℕ) → (square : ℕ) → Option Man
man_in White word square = man_said (Some colour.White) word square
man_in Black word square = man_said (Some colour.Black) word square
man_in _ word square = None

-- the man on a square
abbrev pub man_on : List Said → (square : ℕ) → Option Man
man_on [] square = None
man_on ((key word) ∷ said) square = man_on said square
man_on ((item word) ∷ said) square = or_man (man_on said square) (man_in (section_after said) word square)

abbrev pub asked_at : Section → (word : List ℕ) → Asked → Asked
asked_at Stipulation word before = asked word
asked_at _ word before = before

-- what is asked: by the item behind `stipulation`
abbrev pub asked_in : List Said → Asked
asked_in [] = asks.Nothing
asked_in ((key word) ∷ said) = asked_in said
asked_in ((item word) ∷ said) = asked_at (section_after said) word (asked_in said)
