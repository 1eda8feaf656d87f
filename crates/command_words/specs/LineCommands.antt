-- The commands over lines of positions. A `--lines` that stands behind the name of a command over a FEN, with only options of that command
-- between, belongs to the name: to `clap` each of them is a command of its own.
use Rattle.std.specs.Prelude.{◌+◌, ℕ, List, [], ◌∷◌, Option, None, Some, codes, option_and_then, option_map, if◌then◌else◌}
use Rattle.std.specs.List.{insert, remove}
use Rattle.std.specs.Str.{bytes_eq}
use Rattle.clap.specs.Words.{Text}
use Rattle.command_words.specs.Hyphens.{escaped, is_option_of}

-- the name of the command over lines that belongs to a command over a FEN
abbrev pub lines_name : Text → Option Text
lines_name name =
    if bytes_eq name (codes "look") then Some (codes "look --lines")
    else if bytes_eq name (codes "moves") then Some (codes "moves --lines")
    else if bytes_eq name (codes "perft") then Some (codes "perft --lines")
    else None

-- of words before which so many stand: how many stand before the first `--lines`, where only options of the command stand between
abbrev pub lines_at : Text → ℕ → List Text → Option ℕ
lines_at name n [] = None
lines_at name n (word ∷ words) =
    if bytes_eq word (codes "--lines") then Some n
    else if is_option_of name word then lines_at name (n + 1) words
    else None

-- the name of a command over lines, and how many words stand before its `--lines`
abbrev pub mark_of : List Text → Option (Text × ℕ)
mark_of (program ∷ name ∷ words) = option_and_then (λ lines. option_map (λ n. (lines, n)) (lines_at name 2 words)) (lines_name name)
mark_of _ = None

abbrev pub joined_by : Option (Text × ℕ) → List Text → List Text
joined_by None words = words
joined_by (Some mark) words = insert (remove (remove words mark.1) 1) 1 mark.0

-- the words, with the `--lines` of a command joined to its name
unfoldable pub joined : List Text → List Text
joined words = joined_by (mark_of words) words

-- the words as `clap` is given them
abbrev pub given : List Text → List Text
given words = escaped (joined words)
