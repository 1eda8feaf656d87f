-- Not for believing: what has been read of a problem for Popeye or of Olive's. No contract of a public call rests on it.
use Rattle.std.specs.Prelude.{◌≡◌, ◌≢◌, ◌<◌, ℕ, List, ◌∷◌, codes, Bool, true, false, Option, Some, None}
use Rattle.chess_board.specs.Fens.{SpellsSetup}
use Rattle.chess_board.specs.Men.{has_right_of}
use Rattle.chess_board.specs.Positions.{Setup, man_at}
use Rattle.chess_board.specs.Soundness.{IsSound}
use Rattle.chess_board.specs.declared.men.Colour.{Colour}
use Rattle.chess_board.specs.declared.men.Colour.TheVariants.{White}
use Rattle.chess_board.specs.declared.men.Man.{Man}
use Rattle.chess_board.specs.declared.men.Wing.{Wing}
use Rattle.chess_notation.specs.RecordFields.{line_fields}
use Rattle.chess_notation.specs.Words.{words_in}
use Rattle.stipulations.specs.declared.asked.Asked.{Asked}
use Rattle.stipulations.specs.declared.asked.Asked.TheVariants.{Moves, Nothing}
use Rattle.problem_import.specs.OliveProblems as olive
use Rattle.problem_import.specs.OliveProblems.{Said, item}
use Rattle.problem_import.specs.PopeyeProblems.{asked_in, begins_next, colour_before, command_of, has_end, is_end, man_on, nearest, said_onto, stands_for}
use Rattle.problem_import.specs.SetUps.{IsSetBy, is_right}
use Rattle.problem_import.specs.declared.diagrams.Diagram.{Diagram}
use Rattle.problem_import.specs.declared.import_faults.ImportFault.{ImportFault}
use Rattle.problem_import.specs.declared.olive.OliveProblem.{OliveProblem}
use Rattle.problem_import.specs.declared.olive.Section.{Section}
use Rattle.problem_import.specs.declared.olive.Section.TheVariants as sections
use Rattle.problem_import.specs.declared.popeye.Ending.{Ending}
use Rattle.problem_import.specs.declared.popeye.Ending.TheVariants as endings
use Rattle.problem_import.specs.declared.popeye.Expected.{Expected}
use Rattle.problem_import.specs.declared.popeye.Expected.TheVariants as expects
use Rattle.problem_import.specs.declared.popeye.PopeyeProblem.{PopeyeProblem}
use Rattle.problem_import.specs.declared.popeye_words.Command.{Command}
use Rattle.problem_import.specs.declared.popeye_words.Command.TheVariants as commands

-- The position has these men, and White moves.
unfoldable pub IsSet : List (Option Man) → Setup → Type 0
IsSet men p = ((square : ℕ) → square < 64 → man_at p.men square ≡ man_at men square) × (p.side ≡ White)
    × ((colour : Colour) (wing : Wing) → has_right_of p.rights colour wing ≡ is_right p.men colour wing) × (p.target ≡ None)

-- Each sound position that the text says, has.
unfoldable pub IsSetAs : List (Option Man) → (text : List ℕ) → Type 0
IsSetAs men text = (p : Setup) → SpellsSetup (line_fields text) p → IsSound p → IsSet men p

-- Each sound position that the text says is set by such men.
unfoldable pub SetsUp : (man_on : ℕ → Option Man) → (text : List ℕ) → Type 0
SetsUp man_on text = (p : Setup) → SpellsSetup (line_fields text) p → IsSound p → IsSetBy man_on p

-- The diagram has such men.
abbrev pub HasMen : Diagram → (man_on : ℕ → Option Man) → Type 0
HasMen diagram man_on = (square : ℕ) → square < 64 → man_at diagram.men square ≡ man_on square

-- Such a word is awaited.
abbrev pub IsAwaited : (words : List (List ℕ)) → Option Colour → Expected → Type 0
IsAwaited words colour expects.Stipulation = nearest words ≡ Some commands.Stipulation
IsAwaited words colour expects.Forsyth = nearest words ≡ Some commands.Forsyth
IsAwaited words colour expects.Man = (nearest words ≡ Some commands.Pieces) × (colour ≡ colour_before words)
IsAwaited words colour expects.Option = nearest words ≡ Some commands.Options
IsAwaited words colour expects.Command = Unit {0}
IsAwaited words colour expects.Condition = Unit {0}

abbrev pub asks : Option ℕ → Asked
asks None = Nothing
asks (Some n) = Moves n

pub record IsReadOf (words : List (List ℕ)) (problem : PopeyeProblem) : Type 0 where
  pub men : HasMen problem.diagram (man_on words)
  pub awaited : IsAwaited words problem.colour problem.expected
  pub asked : asked_in words ≡ asks problem.bound

-- What the words say was read, unless there is a fault.
unfoldable pub IsRead : (words : List (List ℕ)) → PopeyeProblem → Type 0
IsRead words problem = problem.fault ≡ None → IsReadOf words problem

abbrev pub IsNoted : Option ImportFault → Type 0
IsNoted fault = fault ≢ None

-- What was read of men and moves is as it was, unless there is a fault.
unfoldable pub KeepsSaid : (old new : PopeyeProblem) → Type 0
KeepsSaid old new = new.fault ≡ None → (old.fault ≡ None) × (new.diagram ≡ old.diagram) × (new.bound ≡ old.bound)
    × (new.expected ≡ old.expected) × (new.colour ≡ old.colour)

-- Such a word may be awaited behind the command.
abbrev pub IsAwaitedBehind : Command → Expected → Type 0
IsAwaitedBehind command expects.Stipulation = command ≡ commands.Stipulation
IsAwaitedBehind command expects.Forsyth = command ≡ commands.Forsyth
IsAwaitedBehind command expects.Man = command ≡ commands.Pieces
IsAwaitedBehind command expects.Option = command ≡ commands.Options
IsAwaitedBehind command expects.Command = Unit {0}
IsAwaitedBehind command expects.Condition = Unit {0}

-- With the word, what was said before is read.
unfoldable pub Takes : (word : List ℕ) → (old new : PopeyeProblem) → Type 0
Takes word old new = (words : List (List ℕ)) → IsRead words old → IsRead (word ∷ words) new

abbrev pub TakesWord : (word : List ℕ) → (old new : PopeyeProblem) → Type 0
TakesWord word old new = command_of word ≡ None → Takes word old new

abbrev pub TakesCommand : Command → (word : List ℕ) → (old new : PopeyeProblem) → Type 0
TakesCommand command word old new = command_of word ≡ Some command → Takes word old new

-- What becomes of a problem behind a word with which its line ends: where it stays open, that ends none.
abbrev pub EndsBy : (word : List ℕ) → Ending → Type 0
EndsBy word endings.Open = is_end (command_of word) ≡ false
EndsBy word endings.Ended = Unit {0}
EndsBy word endings.Next = stands_for word (codes "NextProblem") ≡ true

-- So it is behind a line.
abbrev pub IsEnding : (text : List ℕ) → Ending → Type 0
IsEnding text endings.Open = (words : List (List ℕ)) → has_end words ≡ false → has_end (said_onto (words_in text) words) ≡ false
IsEnding text endings.Ended = Unit {0}
IsEnding text endings.Next = (words : List (List ℕ)) → begins_next (said_onto (words_in text) words) ≡ true

-- ---- of Olive's

pub record AreReadOf (said : List Said) (problem : OliveProblem) : Type 0 where
  pub men : HasMen problem.diagram (olive.man_on said)
  pub section : problem.section ≡ olive.section_after said
  pub asked : olive.asked_in said ≡ asks problem.bound

-- What was said was read, unless there is a fault.
unfoldable pub AreRead : (said : List Said) → OliveProblem → Type 0
AreRead said problem = problem.fault ≡ None → AreReadOf said problem

-- What was read is as it was, unless there is a fault.
unfoldable pub KeepsItems : (old new : OliveProblem) → Type 0
KeepsItems old new = new.fault ≡ None → (old.fault ≡ None) × (new.diagram ≡ old.diagram) × (new.bound ≡ old.bound)
    × (new.section ≡ old.section)

-- Items behind such a key are read, as men or as what is asked.
abbrev pub has_items : Section → Bool
has_items sections.White = true
has_items sections.Black = true
has_items sections.Stipulation = true
has_items _ = false

-- With the item, what was said before is read.
unfoldable pub TakesItem : (word : List ℕ) → (old new : OliveProblem) → Type 0
TakesItem word old new = (said : List Said) → AreRead said old → AreRead (item word ∷ said) new
