-- What was taken of an input, line by line (own to this project).
use Rattle.std.specs.Prelude.{◌≡◌, ◌<◌, ◌++◌, ℕ, List, Option, length, true, false}
use Rattle.std.specs.Io.KnownBytes.{Consumes}
use Rattle.byte_streams.specs.Inputs.{MayBe}
use Rattle.chess_notation.specs.Records.{max_line}
use Rattle.chess_notation.specs.Words.{is_blank}
use Rattle.text_lines.specs.Lines.{lines_of, without_cr}
use Rattle.text_lines.specs.inside.InputLines.{left_of}
use Rattle.text_lines.specs.declared.taken_lines.TakenLine.{TakenLine}
use Rattle.text_lines.specs.declared.taken_lines.TakenLine.TheVariants.{Blank, Long, Text}
use Rattle.text_lines.specs.declared.taken_lines.TakenLines.{TakenLines}

-- A line is blank, or longer than a record may be, or it is this text with or without a CR.
abbrev pub IsTakenAs : TakenLine → List ℕ → Type 0
IsTakenAs Blank line = is_blank (without_cr line) ≡ true
IsTakenAs Long line = (is_blank (without_cr line) ≡ false) × (max_line < length (without_cr line))
IsTakenAs (Text text) line = (is_blank (without_cr line) ≡ false) × (text.items ≡ without_cr line)

-- What was taken of an input, where it is known, and of which so much is left, are these lines, a newline behind each.
unfoldable pub HasTaken : (known left : Option (List ℕ)) → List (List ℕ) → Type 0
HasTaken known left lines = (seen : List ℕ) × Consumes known left seen × ((rest : List ℕ) → lines_of (seen ++ rest) ≡ lines ++ lines_of rest)

-- These are all lines of an input.
unfoldable pub AreAllOf : Option (List ℕ) → List (List ℕ) → Type 0
AreAllOf known lines = (bytes : List ℕ) × MayBe known bytes × (lines_of bytes ≡ lines)

-- What was taken are the first lines of the input.
abbrev pub LinesBegin : Type 0
LinesBegin = (known left : Option (List ℕ)) (lines : List (List ℕ)) → HasTaken known left lines
    → (bytes : List ℕ) × (more : List (List ℕ)) × MayBe known bytes × (lines_of bytes ≡ lines ++ more)

-- what is left of the input, by what it says itself: what was read and isn't taken, and what is still to come
abbrev pub left_in : {I : Type 0} → (I → Option (List ℕ)) → TakenLines I → Option (List ℕ)
left_in left taken = left_of left taken.lines

-- The input of which they are taken may break off, by what it says itself.
abbrev pub are_broken : {I : Type 0} → (I → Type 0) → TakenLines I → Type 0
are_broken breaks taken = breaks taken.lines.input
