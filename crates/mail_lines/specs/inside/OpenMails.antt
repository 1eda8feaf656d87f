-- Not for believing: how far the lines of an input are joined. No contract of a public call rests on it.
use Rattle.std.specs.Prelude.{◌≡◌, ◌<◌, ◌+◌, ℕ, Bool, false, true, List, [], ◌∷◌, ◌++◌, Option, None, Some, length, map, zero, suc}
use Rattle.chess_notation.specs.Records.{max_line}
use Rattle.chess_notation.specs.Words.{is_blank}
use Rattle.text_lines.specs.declared.taken_lines.TakenLine.{TakenLine}
use Rattle.text_lines.specs.declared.taken_lines.TakenLine.TheVariants.{Blank, Long, Text}
use Rattle.mail_lines.specs.Mails.{added, with_cr, with_mails}
use Rattle.mail_lines.specs.declared.open_mails.OpenMail.{OpenMail}

-- This is what is kept of a text: whether it is blank, or longer than a record may be, or all of it.
abbrev pub IsTextOf : TakenLine → List ℕ → Type 0
IsTextOf Blank text = is_blank text ≡ true
IsTextOf Long text = (is_blank text ≡ false) × (max_line < length text)
IsTextOf (Text bytes) text = bytes.items ≡ text

-- what an input reads as, by the lines that are still to come
abbrev pub Reading : Type 0
Reading = List (List ℕ) → List (List ℕ)

abbrev pub empty_lines : ℕ → List (List ℕ)
empty_lines zero = []
empty_lines (suc n) = [] ∷ empty_lines n

-- It reads as these lines and what follows: the text of an open problem, that many empty lines, and the next line has this number.
pub record IsOpenBehind (mail : OpenMail) (number : ℕ) (reading : Reading) (lines : List (List ℕ)) : Type 0 where
  pub text : List ℕ
  pub empty : ℕ
  pub is : IsTextOf mail.text text
  pub filled : is_blank text ≡ false
  pub reads : (rest : List (List ℕ)) → reading rest ≡ lines ++ (text ++ added rest) ∷ (empty_lines empty ++ with_mails true false rest)
  pub first : mail.number ≡ length lines + 1
  pub next : number ≡ mail.number + empty + 1

-- It reads as these lines and what follows, no problem is open, and the next line is headed or isn't.
pub record IsShutBehind (is_headed : Bool) (number : ℕ) (reading : Reading) (lines : List (List ℕ)) : Type 0 where
  pub reads : (rest : List (List ℕ)) → reading rest ≡ lines ++ with_mails false is_headed rest
  pub next : number ≡ length lines + 1

-- The one or the other; behind an open problem's lines none is headed.
abbrev pub IsBehind : Option OpenMail → (is_headed : Bool) → ℕ → Reading → List (List ℕ) → Type 0
IsBehind None is_headed number reading lines = IsShutBehind is_headed number reading lines
IsBehind (Some mail) is_headed number reading lines = IsOpenBehind mail number reading lines

-- These are the first lines as which it reads.
abbrev pub ReadsFirst : Reading → List (List ℕ) → Type 0
ReadsFirst reading lines = (rest : List (List ℕ)) → (more : List (List ℕ)) × (reading rest ≡ lines ++ more)

-- One line more is known.
abbrev pub behind_line : List ℕ → Reading → Reading
behind_line line reading = λ rest. reading (line ∷ rest)

-- as what an input reads of which these lines were taken
abbrev pub reading_of : List (List ℕ) → Reading
reading_of taken = λ rest. with_mails false false (taken ++ rest)

abbrev pub with_crs : List (List ℕ) → List (List ℕ)
with_crs lines = map with_cr lines
