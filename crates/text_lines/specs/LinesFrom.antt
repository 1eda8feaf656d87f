-- What an input is answered from one of its lines on.
use Rattle.std.specs.Prelude.{◌-◌, ℕ, zero, suc, List, [], ◌∷◌, drop, take}
use Rattle.text_lines.specs.Lines.{lines_of}
use Rattle.text_lines.specs.Replies.{IsReplyFrom, LineReplies}

-- What the lines of an input from that of a number on are answered, each under its own number in the input, and how many of them are
-- refused. The lines before it are passed over.
unfoldable pub IsReplyOn : LineReplies → ℕ → List ℕ → List ℕ → ℕ → Type 0
IsReplyOn replies from input text refusals = IsReplyFrom replies from (drop (from - 1) (lines_of input)) text refusals

-- The same of some of the first lines of an input.
unfoldable pub IsReplyToFirstOn : LineReplies → ℕ → List ℕ → List ℕ → Type 0
IsReplyToFirstOn replies from input text =
    (count : ℕ) × (refusals : ℕ) × IsReplyFrom replies from (drop (from - 1) (take count (lines_of input))) text refusals

-- the lines, of which the first so many are read as empty ones
abbrev pub blanked_first : ℕ → List (List ℕ) → List (List ℕ)
blanked_first zero lines = lines
blanked_first (suc n) [] = []
blanked_first (suc n) (line ∷ lines) = [] ∷ blanked_first n lines

-- the lines from that of a number on, where those before it are passed over as empty ones are
abbrev pub lines_from : ℕ → List (List ℕ) → List (List ℕ)
lines_from from lines = blanked_first (from - 1) lines
