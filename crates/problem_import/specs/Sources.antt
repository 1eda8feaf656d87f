-- Where a record comes from that `import` prints (own to this project; games: PGN Specification, 8.1.1, 8.2 and 9.7.2).
use Rattle.std.specs.Prelude.{◌≡◌, ◌≢◌, ◌≤◌, ◌<◌, ◌⊎◌, ◌==◌, ℕ, List, [], ◌∷◌, ◌++◌, map, codes, length, Contains}
use Rattle.std.specs.Prelude.{Bool, true, false, ◌&&◌, ◌||◌, if◌then◌else◌, Option, Some}
use Rattle.std.specs.Char.{to_ascii_lowercase}
use Rattle.std.specs.Str.{bytes_eq}
use Rattle.chess_board.specs.Characters.{char}
use Rattle.chess_board.specs.Fens.{SpellsSetup}
use Rattle.chess_notation.specs.RecordFields.{line_fields}
use Rattle.chess_notation.specs.Records.{RecordValue, Reads, max_line}
use Rattle.chess_board.specs.Positions.{Setup}
use Rattle.chess_notation.specs.Words.{behind, is_blank, word_at, words_in}
use Rattle.lettered_placements.specs.Readings.{line_read}
use Rattle.move_words.specs.Languages.{is_english}
use Rattle.move_words.specs.declared.languages.Letters.{Letters}
use Rattle.problem_import.specs.Imports.{AreImported, IsNumber, IsRecord}
use Rattle.problem_import.specs.Letters.{IsTextOf, trimmed}
use Rattle.problem_import.specs.Numbers.{said}
use Rattle.problem_import.specs.OliveProblems as olive
use Rattle.problem_import.specs.OliveProblems.{Said, line_onto}
use Rattle.problem_import.specs.PopeyeProblems as popeye
use Rattle.problem_import.specs.PopeyeProblems.{begins_next, command_of, has_end, is_begin, said_onto}
use Rattle.problem_import.specs.SetUps.{IsSetBy}
use Rattle.problem_import.specs.TagPairs.{begins_with, is_tag_pair}
use Rattle.problem_import.specs.Numbers.{asked_by_sign}
use Rattle.stipulations.specs.Stipulations.{asked, asked_by_name}
use Rattle.stipulations.specs.declared.asked.Asked.TheVariants.{Moves}

-- The words are the same, whatever the size of their letters.
abbrev pub IsNamed : (word name : List ℕ) → Type 0
IsNamed word name = map to_ascii_lowercase word ≡ map to_ascii_lowercase name

-- what stands behind the first byte of such a kind
abbrev pub behind_byte : ℕ → List ℕ → List ℕ
behind_byte byte [] = []
behind_byte byte (b ∷ bs) = if b == byte then bs else behind_byte byte bs

-- A value up to the next quotation mark. A backslash is none of it, and what stands behind one is, whatever it is.
abbrev pub value_from : (is_escaped : Bool) → List ℕ → List ℕ
value_from is_escaped [] = []
value_from true (b ∷ bs) = b ∷ value_from false bs
value_from false (b ∷ bs) = if b == char "\\" then value_from true bs else (if b == char "\"" then [] else b ∷ value_from false bs)

-- The text has a tag of such a name: it stands behind a bracket, and this is the value behind it.
abbrev pub HasTag : (IsName : List ℕ → Type 0) → (text value : List ℕ) → Type 0
HasTag IsName text value = (front pair : List ℕ) × (text ≡ front ++ char "[" ∷ pair) × IsName (word_at pair)
    × (value ≡ value_from false (behind_byte (char "\"") pair))

abbrev pub IsFenName : List ℕ → Type 0
IsFenName name = IsNamed name (codes "FEN")

-- The tag says what is asked.
abbrev pub IsStipulation : List ℕ → Type 0
IsStipulation name = IsNamed name (codes "Stipulation")

-- The tag has names, among which a number of moves may be said.
pub data HasNames (name : List ℕ) : Type 0 where
  event : IsNamed name (codes "Event") → HasNames name
  white : IsNamed name (codes "White") → HasNames name
  black : IsNamed name (codes "Black") → HasNames name
  annotator : IsNamed name (codes "Annotator") → HasNames name

-- a value with English letters, without white space at its ends
abbrev pub fen_read : Letters → List ℕ → List ℕ
fen_read letters value = trimmed (if is_english letters then value else line_read letters value)

-- It is the value of a tag FEN in the text, as these letters say it.
abbrev pub IsFenOf : Letters → (text fen : List ℕ) → Type 0
IsFenOf letters text fen = (value : List ℕ) × HasTag IsFenName text value × (fen ≡ fen_read letters value)

-- what stands before the first byte of such a kind
abbrev pub before_byte : ℕ → List ℕ → List ℕ
before_byte byte [] = []
before_byte byte (b ∷ bs) = if b == byte then [] else b ∷ before_byte byte bs

-- Such a part stands in the text, as a comment does: up to the next brace that ends one, or the text's end.
abbrev pub HasComment : (text comment : List ℕ) → Type 0
HasComment text comment = (front more : List ℕ) × (text ≡ front ++ more) × (comment ≡ before_byte (char "}") more)

-- The tag has the defender's name, in place of which the stipulation may stand as a sign: `#2`.
abbrev pub IsBlack : List ℕ → Type 0
IsBlack name = IsNamed name (codes "Black")

-- The tag says so many moves by such a value.
pub data TagAsks (name value : List ℕ) (n : ℕ) : Type 0 where
  stipulated : IsStipulation name → asked value ≡ Moves n → TagAsks name value n
  by_sign : IsBlack name → asked_by_sign value ≡ Moves n → TagAsks name value n
  by_name : HasNames name → asked_by_name value ≡ Moves n → TagAsks name value n

-- The text of a game says so many moves: in a tag or in a comment.
abbrev pub SaysMoves : (text : List ℕ) → ℕ → Type 0
SaysMoves text n = (value : List ℕ) × (HasTag (λ name. TagAsks name value n) text value
    ⊎ (HasComment text value × (asked value ≡ Moves n)))

-- ---- lines

-- The line is the last of them.
abbrev pub IsLast : (lines : List (List ℕ)) → (line : List ℕ) → Type 0
IsLast lines line = (before : List (List ℕ)) × (lines ≡ before ++ line ∷ [])

-- These are the lines, or all but the last.
abbrev pub AreUpTo : (lines own : List (List ℕ)) → Type 0
AreUpTo lines own = (own ≡ lines) ⊎ ((last : List ℕ) × (lines ≡ own ++ last ∷ []))

-- The line says such a text, and is no record as it stands.
abbrev pub Says : (line text : List ℕ) → Type 0
Says line text = IsTextOf line text × (¬ (IsRecord line))

-- a space, or nothing
abbrev pub is_apart : List ℕ → Bool
is_apart [] = true
is_apart (b ∷ bs) = b == char " "

-- People put a problem aside so; `#2` is no remark.
abbrev pub is_remark : List ℕ → Bool
is_remark [] = false
is_remark (b ∷ bs) = ((b == char "#") && is_apart bs) || ((b == char "%") || (b == char ";"))

-- Nothing is said in the line: it is blank, too long to be read, without a text, or a remark.
pub data IsPassed (line : List ℕ) : Type 0 where
  blank : is_blank line ≡ true → IsPassed line
  too_long : max_line < length line → IsPassed line
  no_text : IsTextOf line [] → IsPassed line
  remark : (text : List ℕ) → IsTextOf line text → is_remark text ≡ true → IsPassed line

-- The text begins a problem: by a tag pair, by `---`, or by `BeginProblem`.
abbrev pub begins_problem : List ℕ → Bool
begins_problem text = is_tag_pair text || (bytes_eq text (codes "---") || is_begin (command_of (word_at text)))

-- ---- a problem's own lines: of each form from the one on with which it begins, all of them, in their order

-- Something stands in the last of the lines, which isn't too long to be read.
abbrev pub IsUnbroken : (lines : List (List ℕ)) → Type 0
IsUnbroken lines = (line : List ℕ) × (text : List ℕ) × IsLast lines line × IsTextOf line text × (text ≢ []) × (length line ≤ max_line)

-- One of the texts may open a comment.
abbrev pub HasBrace : (texts : List (List ℕ)) → Type 0
HasBrace texts = (text : List ℕ) × Contains texts text × Contains text (char "{")

-- Behind an empty line movetext goes on only in a comment.
abbrev pub MayGoOn : (before texts : List (List ℕ)) → (has_moves : Bool) → Type 0
MayGoOn before texts has_moves = (has_moves ≡ false) ⊎ (IsUnbroken before ⊎ HasBrace texts)

-- The texts of a game that is open behind such lines, from the last to the first, and whether its movetext has begun. A line that begins with a
-- bracket begins it; tag pairs are its own where no empty line stands before them; no line of movetext is one.
pub data IsGame : (lines texts : List (List ℕ)) → (has_moves : Bool) → Type 0 where
  first_tag : (before : List (List ℕ)) (line text : List ℕ) → Says line text → begins_with (char "[") text ≡ true
      → IsGame (before ++ line ∷ []) (text ∷ []) false
  tag_line : (before texts : List (List ℕ)) (line text : List ℕ) → IsGame before texts false → IsUnbroken before → Says line text
      → begins_with (char "[") text ≡ true → IsGame (before ++ line ∷ []) (text ∷ texts) false
  move_line : (before texts : List (List ℕ)) (has_moves : Bool) (line text : List ℕ) → IsGame before texts has_moves
      → MayGoOn before texts has_moves → Says line text
      → is_tag_pair text ≡ false → IsGame (before ++ line ∷ []) (text ∷ texts) true
  game_waits : (before texts : List (List ℕ)) (has_moves : Bool) (line : List ℕ) → IsGame before texts has_moves → IsPassed line
      → IsGame (before ++ line ∷ []) texts has_moves

-- The words of a problem for Popeye that is open behind such lines, from the last to the first. It begins behind `BeginProblem`, or with the line
-- behind one where another's words end with `NextProblem`; it ends with `EndProblem`, and where another begins.
pub data IsPopeyes : (lines words : List (List ℕ)) → Type 0 where
  behind_begin : (before : List (List ℕ)) (line text : List ℕ) → Says line text → is_begin (command_of (word_at text)) ≡ true
      → IsPopeyes (before ++ line ∷ []) (said_onto (words_in (behind text)) [])
  behind_next : (lines words : List (List ℕ)) → IsPopeyes lines words → begins_next words ≡ true → IsPopeyes lines []
  words_on : (before words : List (List ℕ)) (line text : List ℕ) → IsPopeyes before words → has_end words ≡ false → Says line text
      → is_remark text ≡ false → begins_problem text ≡ false → begins_with (char "[") text ≡ false
      → IsPopeyes (before ++ line ∷ []) (said_onto (words_in text) words)
  words_wait : (before words : List (List ℕ)) (line : List ℕ) → IsPopeyes before words → IsPassed line → IsPopeyes (before ++ line ∷ []) words

-- What a problem of Olive's says that is open behind such lines, from the last to the first. It begins behind a line `---`.
pub data IsOlives : (lines : List (List ℕ)) → (said : List Said) → Type 0 where
  behind_border : (before : List (List ℕ)) (line : List ℕ) → Says line (codes "---") → IsOlives (before ++ line ∷ []) []
  items_on : (before : List (List ℕ)) (said : List Said) (line text : List ℕ) → IsOlives before said → Says line text
      → is_remark text ≡ false → begins_problem text ≡ false → IsOlives (before ++ line ∷ []) (line_onto text said)
  items_wait : (before : List (List ℕ)) (said : List Said) (line : List ℕ) → IsOlives before said → IsPassed line
      → IsOlives (before ++ line ∷ []) said

-- One of a game's texts says so many moves.
abbrev pub GameSays : (texts : List (List ℕ)) → ℕ → Type 0
GameSays texts n = (text : List ℕ) × Contains texts text × SaysMoves text n

-- A problem that the lines have, by its position and its number of moves: of the last, the position that its first four words spell and the number
-- that it says; of a game, a tag FEN of a line of tags, and a number that it says or that is given; or the men that are set up one by one, and what
-- is asked of them.
pub data IsProblemIn (letters : Letters) (given : Option ℕ) (lines : List (List ℕ)) (p : Setup) (n : ℕ) : Type 0 where
  of_line : (line text : List ℕ) → IsLast lines line → IsTextOf line text → SpellsSetup (line_fields text) p → IsNumber given line (said text) n
      → IsProblemIn letters given lines p n
  of_game : (own texts : List (List ℕ)) (has_moves : Bool) (text fen : List ℕ) → AreUpTo lines own → IsGame own texts has_moves
      → Contains texts text → begins_with (char "[") text ≡ true → IsFenOf letters text fen → SpellsSetup (line_fields fen) p → GameSays texts n ⊎ (given ≡ Some n)
      → IsProblemIn letters given lines p n
  of_popeyes : (own words : List (List ℕ)) → AreUpTo lines own → IsPopeyes own words → IsSetBy (popeye.man_on words) p
      → popeye.asked_in words ≡ Moves n → IsProblemIn letters given lines p n
  of_olives : (own : List (List ℕ)) (said : List Said) → AreUpTo lines own → IsOlives own said → IsSetBy (olive.man_on said) p
      → olive.asked_in said ≡ Moves n → IsProblemIn letters given lines p n

-- The record is the last of the lines, or one of a problem that they have.
abbrev pub IsSourced : Letters → (given : Option ℕ) → (lines : List (List ℕ)) → (made : List ℕ) → Type 0
IsSourced letters given lines made = IsLast lines made
    ⊎ ((r : RecordValue) → Reads made 3 r → IsProblemIn letters given lines r.position r.bound)

-- Lines are read one after the other, behind such. What is printed at each is of those up to it; at the end, as at an empty line, of all.
pub data AreSourcedFrom (letters : Letters) (given : Option ℕ) : (before lines : List (List ℕ)) → (text : List ℕ) → Type 0 where
  at_end : (before : List (List ℕ)) (text : List ℕ) (any : Bool) → AreImported (IsSourced letters given (before ++ [] ∷ [])) text any
      → AreSourcedFrom letters given before [] text
  at_line : (before lines : List (List ℕ)) (line text more : List ℕ) (any : Bool)
      → AreImported (IsSourced letters given (before ++ line ∷ [])) text any → AreSourcedFrom letters given (before ++ line ∷ []) lines more
      → AreSourcedFrom letters given before (line ∷ lines) (text ++ more)

-- The lines are read so from the first on.
unfoldable pub AreSourced : Letters → (given : Option ℕ) → (lines : List (List ℕ)) → (text : List ℕ) → Type 0
AreSourced letters given lines text = AreSourcedFrom letters given [] lines text
