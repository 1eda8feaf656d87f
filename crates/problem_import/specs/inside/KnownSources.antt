-- Not for believing: where what is found and what is open comes from. It comes to `AreSourced`.
use Rattle.std.specs.Prelude.{◌≡◌, ◌⊎◌, ◌<◌, ◌≤◌, ◌+◌, ℕ, List, [], ◌∷◌, ◌++◌, All, Contains, length, Bool, true, false, Option, Some, None}
use Rattle.chess_notation.specs.RecordFields.{line_fields}
use Rattle.chess_notation.specs.Records.{max_line}
use Rattle.chess_notation.specs.Words.{is_blank}
use Rattle.move_words.specs.declared.languages.Letters.{Letters}
use Rattle.chess_board.specs.Characters.{char}
use Rattle.stipulations.specs.Stipulations.{asked}
use Rattle.chess_board.specs.Fens.{SpellsSetup}
use Rattle.chess_board.specs.Positions.{Setup}
use Rattle.chess_board.specs.Soundness.{IsSound}
use Rattle.stipulations.specs.declared.asked.Asked.TheVariants.{Moves}
use Rattle.problem_import.specs.PopeyeProblems.{has_end}
use Rattle.problem_import.specs.Sources.{AreUpTo, GameSays, HasBrace, IsFenOf, IsGame, IsOlives, IsPopeyes, IsProblemIn, IsSourced, IsUnbroken, Says, before_byte}
use Rattle.problem_import.specs.Sources.{TagAsks}
use Rattle.problem_import.specs.declared.games.Game.{Game}
use Rattle.problem_import.specs.declared.findings.Finding.{Finding}
use Rattle.problem_import.specs.declared.findings.Found.{Found}
use Rattle.problem_import.specs.declared.findings.Found.TheVariants.{Text, Fault}
use Rattle.problem_import.specs.declared.findings.Number.{Number}
use Rattle.problem_import.specs.declared.findings.Number.TheVariants as number
use Rattle.problem_import.specs.declared.reading.Open.{Open}
use Rattle.problem_import.specs.declared.reading.Open.TheVariants as opens
use Rattle.problem_import.specs.declared.reading.Reading.{Reading}
use Rattle.problem_import.specs.OliveProblems.{Said}
use Rattle.problem_import.specs.declared.olive.OliveProblem.{OliveProblem}
use Rattle.problem_import.specs.declared.popeye.PopeyeProblem.{PopeyeProblem}
use Rattle.problem_import.specs.inside.OpenProblems.{has_game}
use Rattle.problem_import.specs.inside.ReadProblems.{AreRead, IsRead}
use Rattle.problem_import.specs.TagPairs.{EndsText, begins_with}

-- Each sound position that the text says is one of a problem that the lines have, where it asks so many moves.
unfoldable pub IsFrom : Letters → (given : Option ℕ) → (lines : List (List ℕ)) → (made : List ℕ) → ℕ → Type 0
IsFrom letters given lines made n = (p : Setup) → SpellsSetup (line_fields made) p → IsSound p → IsProblemIn letters given lines p n

-- It is so of the number that a record is to ask.
abbrev pub IsFoundBy : Letters → (given : Option ℕ) → (lines : List (List ℕ)) → (made : List ℕ) → Number → Type 0
IsFoundBy letters given lines made (number.Said n) = IsFrom letters given lines made n
IsFoundBy letters given lines made number.Own = IsFrom letters given lines made 3
IsFoundBy letters given lines made number.Unsaid = (n : ℕ) → given ≡ Some n → IsFrom letters given lines made n

unfoldable pub IsCountFrom : Letters → (given : Option ℕ) → (lines : List (List ℕ)) → (made : List ℕ) → Option ℕ → Type 0
IsCountFrom letters given lines made None = ⊥
IsCountFrom letters given lines made (Some n) = IsFrom letters given lines made n

abbrev pub IsFoundFrom : Letters → (lines : List (List ℕ)) → Found → Type 0
IsFoundFrom letters lines (Text made changes moves) = (given : Option ℕ) → IsFoundBy letters given lines made.items moves
IsFoundFrom letters lines (Fault fault) = Unit {0}

unfoldable pub AreFrom : Letters → (lines : List (List ℕ)) → List Finding → Type 0
AreFrom letters lines findings = All (λ finding. IsFoundFrom letters lines finding.found) findings

-- The text has the first four words of a tag FEN in one of the texts.
unfoldable pub HasFen : Letters → (texts : List (List ℕ)) → (made : List ℕ) → Type 0
HasFen letters texts made = (text : List ℕ) × (fen : List ℕ) × Contains texts text × (begins_with (char "[") text ≡ true) × IsFenOf letters text fen
    × (line_fields made ≡ line_fields fen)

-- A game has a position or doesn't, as it did, and one with the same fields.
abbrev pub KeepsFen : (old new : Game) → Type 0
KeepsFen old new = (new.has_fen ≡ old.has_fen) × (line_fields new.fen.items ≡ line_fields old.fen.items)

-- It asks what it did.
abbrev pub KeepsAsked : (old new : Game) → Type 0
KeepsAsked old new = (new.asked ≡ old.asked) × (new.stipulated ≡ old.stipulated)

-- A tag of such a name and value says so many moves.
abbrev pub TagSays : (name value : List ℕ) → ℕ → Type 0
TagSays name value n = TagAsks name value n

-- What stands up to the next brace says so many.
abbrev pub CommentSays : (text : List ℕ) → ℕ → Type 0
CommentSays text n = asked (before_byte (char "}") text) ≡ Moves n

-- It asks what it did, or so many moves as are said there.
abbrev pub AsksMore : (Says : ℕ → Type 0) → (old new : Game) → Type 0
AsksMore Says old new = ((n : ℕ) → new.asked ≡ Moves n → (old.asked ≡ Moves n) ⊎ Says n)
    × ((n : ℕ) → new.stipulated ≡ Some (Moves n) → (old.stipulated ≡ Some (Moves n)) ⊎ Says n)

-- The position of a game, and the number of moves that it asks, are of its texts.
pub record IsGameOf (letters : Letters) (texts : List (List ℕ)) (game : Game) : Type 0 where
  pub fen : game.has_fen ≡ true → HasFen letters texts game.fen.items
  pub asked : (n : ℕ) → game.asked ≡ Moves n → GameSays texts n
  pub stipulated : (n : ℕ) → game.stipulated ≡ Some (Moves n) → GameSays texts n
  pub comment : game.in_comment ≡ true → HasBrace texts

-- These are its texts.
abbrev pub IsGameFrom : Letters → (lines : List (List ℕ)) → Game → Type 0
IsGameFrom letters lines game = (texts : List (List ℕ)) × (has_moves : Bool) × IsGame lines texts has_moves × IsGameOf letters texts game
    × (game.is_begun ≡ false → has_moves ≡ false)

-- A problem for Popeye is open, of which these words were read.
pub record IsReadPopeyes (words : List (List ℕ)) (problem : PopeyeProblem) : Type 0 where
  pub read : IsRead words problem
  pub on : has_end words ≡ false

abbrev pub IsPopeyeFrom : (lines : List (List ℕ)) → PopeyeProblem → Type 0
IsPopeyeFrom lines problem = (words : List (List ℕ)) × IsPopeyes lines words × IsReadPopeyes words problem

abbrev pub IsOliveFrom : (lines : List (List ℕ)) → OliveProblem → Type 0
IsOliveFrom lines problem = (said : List Said) × IsOlives lines said × AreRead said problem

abbrev pub IsOpenFrom : Letters → (lines : List (List ℕ)) → Open → Type 0
IsOpenFrom letters lines opens.Nothing = Unit {0}
IsOpenFrom letters lines (opens.Game game) = IsGameFrom letters lines game
IsOpenFrom letters lines (opens.Movetext movetext) = Unit {0}
IsOpenFrom letters lines (opens.Popeye problem) = IsPopeyeFrom lines problem
IsOpenFrom letters lines (opens.Olive problem) = IsOliveFrom lines problem

-- What ends is of the lines.
abbrev pub IsEndedFrom : Letters → (lines : List (List ℕ)) → Open → Type 0
IsEndedFrom letters lines opens.Nothing = Unit {0}
IsEndedFrom letters lines (opens.Game game) = IsGameFrom letters lines game
IsEndedFrom letters lines (opens.Movetext movetext) = Unit {0}
IsEndedFrom letters lines (opens.Popeye problem) = (words : List (List ℕ)) × IsPopeyes lines words × IsRead words problem
IsEndedFrom letters lines (opens.Olive problem) = IsOliveFrom lines problem

-- What is open is of the lines, and read by the letters.
abbrev pub IsHeld : Letters → (lines : List (List ℕ)) → Reading → Type 0
IsHeld letters lines reading = (reading.letters ≡ letters) × IsOpenFrom letters lines reading.open

-- What is open is of the lines, and where a game is, the number tells whether something stands in the last of them.
pub record IsKnown (letters : Letters) (lines : List (List ℕ)) (reading : Reading) : Type 0 where
  pub by : reading.letters ≡ letters
  pub held : IsOpenFrom letters lines reading.open
  pub past : has_game reading.open ≡ true → reading.last ≤ length lines
  pub unbroken : has_game reading.open ≡ true → length lines ≤ reading.last → IsUnbroken lines

-- The line is that of such a number, behind these.
abbrev pub IsAt : (lines own : List (List ℕ)) → (number : ℕ) → (line : List ℕ) → Type 0
IsAt lines own number line = (lines ≡ own ++ line ∷ []) × (length own + 1 ≡ number)

-- Where what ends is of lines, what was found is of these still.
abbrev pub Ends : Letters → (lines own : List (List ℕ)) → (old : Open) → (before after : List Finding) → Type 0
Ends letters lines own old before after = AreUpTo lines own → IsEndedFrom letters own old → AreFrom letters lines before → AreFrom letters lines after

-- So it is, and what is known is known still.
abbrev pub Keeps : (old new : Reading) → (before after : List Finding) → Type 0
Keeps old new before after = (letters : Letters) (lines own : List (List ℕ)) → AreUpTo lines own → IsKnown letters own old
    → AreFrom letters lines before → IsKnown letters own new × AreFrom letters lines after

-- What was known before a line of such a number, which says the text, is known with it; what was found is of the lines.
abbrev pub Takes : (number : ℕ) → (text : List ℕ) → (old new : Reading) → (before after : List Finding) → Type 0
Takes number text old new before after = (letters : Letters) (lines own : List (List ℕ)) (line : List ℕ) → IsAt lines own number line
    → Says line text → IsKnown letters own old → AreFrom letters lines before → IsHeld letters lines new × AreFrom letters lines after

-- So it is whatever the number, of what is open.
abbrev pub TakesOn : (text : List ℕ) → (old new : Reading) → (before after : List Finding) → Type 0
TakesOn text old new before after = (letters : Letters) (lines own : List (List ℕ)) (line : List ℕ) → lines ≡ own ++ line ∷ []
    → Says line text → IsHeld letters own old → AreFrom letters lines before → IsHeld letters lines new × AreFrom letters lines after

-- The text stands at the end of one of these.
abbrev pub EndsOne : (texts : List (List ℕ)) → (rest : List ℕ) → Type 0
EndsOne texts rest = (text : List ℕ) × Contains texts text × EndsText rest text

-- Tag pairs of a game were read, one of whose texts ends so.
abbrev pub IsTagRead : Letters → (lines : List (List ℕ)) → (rest : List ℕ) → Open → Type 0
IsTagRead letters lines rest opens.Nothing = ⊥
IsTagRead letters lines rest (opens.Game game) = (texts : List (List ℕ)) × IsGame lines texts false × IsGameOf letters texts game
    × EndsOne texts rest
IsTagRead letters lines rest (opens.Movetext movetext) = ⊥
IsTagRead letters lines rest (opens.Popeye problem) = ⊥
IsTagRead letters lines rest (opens.Olive problem) = ⊥

-- A game is open, one of whose texts ends so; or the movetext of one.
abbrev pub IsMoved : Letters → (lines : List (List ℕ)) → (rest : List ℕ) → Open → Type 0
IsMoved letters lines rest opens.Nothing = ⊥
IsMoved letters lines rest (opens.Game game) = (texts : List (List ℕ)) × (has_moves : Bool) × IsGame lines texts has_moves
    × IsGameOf letters texts game × EndsOne texts rest
IsMoved letters lines rest (opens.Movetext movetext) = Unit {0}
IsMoved letters lines rest (opens.Popeye problem) = ⊥
IsMoved letters lines rest (opens.Olive problem) = ⊥

-- A game is open whose next line may be a tag pair: one that goes on, or a new one.
abbrev pub IsTagged : Letters → (lines : List (List ℕ)) → Open → Type 0
IsTagged letters lines opens.Nothing = ⊥
IsTagged letters lines (opens.Game game) = (texts : List (List ℕ)) × IsGameOf letters texts game
    × ((texts ≡ []) ⊎ (IsGame lines texts false × IsUnbroken lines))
IsTagged letters lines (opens.Movetext movetext) = ⊥
IsTagged letters lines (opens.Popeye problem) = ⊥
IsTagged letters lines (opens.Olive problem) = ⊥

-- A problem for Popeye is open, of which these words were read.
abbrev pub IsWorded : (words : List (List ℕ)) → Open → Type 0
IsWorded words opens.Nothing = ⊥
IsWorded words (opens.Game game) = ⊥
IsWorded words (opens.Movetext movetext) = ⊥
IsWorded words (opens.Popeye problem) = IsReadPopeyes words problem
IsWorded words (opens.Olive problem) = ⊥

-- A text that is printed is one of the lines, or of a problem that they have.
unfoldable pub IsMadeFrom : Letters → (given : Option ℕ) → (lines : List (List ℕ)) → (made : List ℕ) → Type 0
IsMadeFrom letters given lines made = IsSourced letters given lines made

-- What is open is known to be of these lines, as far as they were looked at, and a line that was passed over changes nothing.
pub data IsKnownOf (letters : Letters) (reading : Reading) : (before : List (List ℕ)) → Type 0 where
  looked_at : (before : List (List ℕ)) → IsKnown letters before reading → IsKnownOf letters reading before
  passed_over : (before : List (List ℕ)) (line : List ℕ) → (is_blank line ≡ true) ⊎ (max_line < length line)
      → IsKnownOf letters reading before → IsKnownOf letters reading (before ++ line ∷ [])
