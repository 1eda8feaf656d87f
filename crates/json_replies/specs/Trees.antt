-- Answers with their trees as objects of JSON.
use Rattle.std.specs.Prelude.{ℕ, ◌==◌, List, [], ◌∷◌, ◌++◌, codes, drop, flat_map, if◌then◌else◌}
use Rattle.std.specs.List.{slice_split}
use Rattle.chess_board.specs.Characters.{char}
use Rattle.chess_notation.specs.Words.{is_empty_text}
use Rattle.json_replies.specs.Answers.{is_refusal, open_answer, refusal_object}
use Rattle.json_replies.specs.Cuts.{before, from_on}
use Rattle.json_replies.specs.Strings.{string}

-- a line as a string behind a comma, and of an empty one nothing
abbrev pub line_string : List ℕ → List ℕ
line_string line = if is_empty_text line then [] else char "," ∷ string line

-- the lines of a text, likewise
abbrev pub line_strings : List ℕ → List ℕ
line_strings text = flat_map line_string (slice_split (λ b. b == char "\n") text)

-- the object of an answer, whose tree is what stands below it
unfoldable pub tree_object : List ℕ → ℕ → List ℕ → List ℕ
tree_object front number reply = open_answer front number (before (char "\n") 0 reply)
    ++ codes "},\"tree\":[" ++ drop 1 (line_strings (from_on (char "\n") 0 reply)) ++ codes "]}\n"

-- the reply to a line, as `tree` writes it, in JSON
abbrev pub tree_json : List ℕ → ℕ → List ℕ → List ℕ
tree_json front number reply = if is_refusal reply then refusal_object front number reply else tree_object front number reply
