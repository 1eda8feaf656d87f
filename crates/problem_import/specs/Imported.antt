-- What an input is imported as, by letters of men (own to this project).
use Rattle.std.specs.Prelude.{ℕ, List, Bool, Option, unwrap_or}
use Rattle.move_words.specs.Languages.{english, letters_said}
use Rattle.move_words.specs.declared.languages.Letters.{Letters}
use Rattle.text_lines.specs.Lines.{texts_of}
use Rattle.problem_import.specs.Imports.{IsImport, IsImportOfFirst}
use Rattle.mail_lines.specs.Mails.{mailed}
use Rattle.problem_import.specs.Sources.{AreSourced}
use Rattle.problem_import.specs.declared.import_letters.ImportLetters.{ImportLetters}

-- The letters of men that a word gives. A word that gives none asks for nothing.
abbrev pub letters_in : List ℕ → Letters
letters_in word = unwrap_or (letters_said word) english

-- those that two words give, for moves and for placements
abbrev pub import_letters_in : (moves placements : List ℕ) → ImportLetters
import_letters_in moves placements = record { moves = letters_in moves; placements = letters_in placements }

-- What an input is imported as: its lines, by such letters in placements and with what problems take on; and each record is of those lines.
unfoldable pub IsImported : ImportLetters → Bool → Option ℕ → (input text : List ℕ) → ℕ → Type 0
IsImported letters keep given input text count = IsImport letters.moves keep given (mailed letters.placements input) text count
    × AreSourced letters.placements given (texts_of (mailed letters.placements input)) text

-- What there is to print where that stops.
unfoldable pub IsImportedOfFirst : ImportLetters → Bool → Option ℕ → (input text : List ℕ) → Type 0
IsImportedOfFirst letters keep given input text = IsImportOfFirst letters.moves keep given (mailed letters.placements input) text
    × AreSourced letters.placements given (texts_of (mailed letters.placements input)) text
