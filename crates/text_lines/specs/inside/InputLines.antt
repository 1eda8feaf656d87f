-- Not for believing: how a line is taken from what comes. No contract of a public call rests on it.
use Rattle.std.specs.Prelude.{◌≡◌, ◌+◌, ◌==◌, ◌&&◌, ℕ, Bool, true, false, List, [], ◌∷◌, ◌++◌, Option, All, take, drop}
use Rattle.std.specs.Io.KnownBytes.{Consumes, IsAtEnd, prepend_known}
use Rattle.chess_notation.specs.Records.{max_line}
use Rattle.text_lines.specs.declared.input_lines.Kept.{Kept}
use Rattle.text_lines.specs.declared.input_lines.Lines.{Lines}

-- No byte of it is a newline.
abbrev pub IsOneLine : List ℕ → Type 0
IsOneLine bytes = All (λ b. (b == 10) ≡ false) bytes

-- A line is taken and the newline behind it, or all that is left where there is none.
abbrev pub TakesLine : Bool → Option (List ℕ) → Option (List ℕ) → List ℕ → Type 0
TakesLine true old new line = IsOneLine line × Consumes old new line × IsAtEnd new
TakesLine false old new line = IsOneLine line × Consumes old new (line ++ 10 ∷ [])

-- how much of a line is kept: a byte more than the longest record and the CR behind it
abbrev pub most_kept : ℕ
most_kept = max_line + 2

-- whether there are spaces alone before the last byte, by the same of what comes first and that byte
abbrev pub spaces_before : Bool → ℕ → List ℕ → Bool
spaces_before spaces last [] = spaces
spaces_before spaces last (b ∷ bs) = spaces_before (spaces && last == 32) b bs

-- the last byte, or the one given
abbrev pub last_or : ℕ → List ℕ → ℕ
last_or last [] = last
last_or last (b ∷ bs) = last_or b bs

-- What is kept of a line: its first bytes, and of all of it, as if a space stood before it, the last byte and whether there are
-- spaces alone before that.
pub record IsKept (kept : Kept) (line : List ℕ) : Type 0 where
  pub bytes : kept.bytes.items ≡ take most_kept line
  pub spaces : kept.spaces ≡ spaces_before true 32 line
  pub last : kept.last ≡ last_or 32 line

-- what an input has left, by what it says itself: what was read and isn't taken, and what is still to come
abbrev pub left_of : {I : Type 0} → (I → Option (List ℕ)) → Lines I → Option (List ℕ)
left_of left lines = prepend_known (drop lines.taken lines.piece.items) (left lines.input)
