-- The replies to an input, line by line (own to this project).
use Rattle.std.specs.Prelude.{◌≡◌, ℕ, ◌+◌, ◌-◌, List, [], ◌∷◌, ◌++◌, length, take}
use Rattle.text_lines.specs.Lines.{lines_of, without_cr}

-- What lines may be answered: by a line's number in the input, from 1, and the line without its CR, the text of the reply, and how many
-- refusals that is.
abbrev pub LineReplies : Type 1
LineReplies = ℕ → List ℕ → List ℕ → ℕ → Type 0

-- What a line may be answered behind the lines before it, each without its CR.
abbrev pub RepliesBehind : Type 1
RepliesBehind = List (List ℕ) → LineReplies

-- What these lines may be answered, each by those before it.
abbrev pub behind : RepliesBehind → List (List ℕ) → LineReplies
behind follows lines = λ number. follows (take (number - 1) lines) number

-- What lines are answered, the first of them numbered so, and how many are refused.
abbrev pub IsReplyFrom : LineReplies → ℕ → List (List ℕ) → List ℕ → ℕ → Type 0
IsReplyFrom replies number [] text refusals = (text ≡ []) × (refusals ≡ 0)
IsReplyFrom replies number (line ∷ lines) text refusals = (here : List ℕ) × (count : ℕ) × (more : List ℕ) × (others : ℕ)
    × replies number (without_cr line) here count × IsReplyFrom replies (number + 1) lines more others
    × (text ≡ here ++ more) × (refusals ≡ count + others)

-- What an input is answered, and how many of its lines are refused.
unfoldable pub IsReply : LineReplies → List ℕ → List ℕ → ℕ → Type 0
IsReply replies input text refusals = IsReplyFrom replies 1 (lines_of input) text refusals

-- What some of the first lines of an input are answered.
unfoldable pub IsReplyToFirst : LineReplies → List ℕ → List ℕ → Type 0
IsReplyToFirst replies input text = (count : ℕ) × (refusals : ℕ) × IsReplyFrom replies 1 (take count (lines_of input)) text refusals

-- The reply to one line more, by its number, goes on the replies to the lines before it.
abbrev pub RepliesGoOn : LineReplies → Type 0
RepliesGoOn replies = (number : ℕ) (lines : List (List ℕ)) (line text here : List ℕ) (before count : ℕ) → length lines + 1 ≡ number
    → IsReplyFrom replies 1 lines text before → replies number (without_cr line) here count
    → IsReplyFrom replies 1 (lines ++ line ∷ []) (text ++ here) (before + count)
