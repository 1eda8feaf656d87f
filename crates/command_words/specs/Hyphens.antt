-- A FEN that begins with a hyphen is a FEN, and no option.
use Rattle.std.specs.Prelude.{◌==◌, ◌&&◌, ◌||◌, ◌+◌, ◌++◌, not, take, drop, slice_get, ℕ, Bool}
use Rattle.std.specs.Prelude.{List, [], ◌∷◌, Option, None, Some, false, codes, if◌then◌else◌}
use Rattle.std.specs.Option.{option_map_or}
use Rattle.std.specs.Str.{bytes_eq}
use Rattle.clap.specs.Words.{Text}

-- the commands whose first word, options aside, is a FEN
abbrev pub takes_fen : Text → Bool
takes_fen name = bytes_eq name (codes "look") || bytes_eq name (codes "play") || bytes_eq name (codes "moves") || bytes_eq name (codes "perft")

-- the options of these commands, which may stand before the FEN
abbrev pub is_option_of : Text → Text → Bool
is_option_of name word =
    if bytes_eq name (codes "look") then bytes_eq word (codes "--board") || bytes_eq word (codes "--flip") || bytes_eq word (codes "--svg")
    else if bytes_eq name (codes "moves") then bytes_eq word (codes "--coordinates") || bytes_eq word (codes "--fen") || bytes_eq word (codes "--json")
    else bytes_eq name (codes "perft") && bytes_eq word (codes "--divide")

-- begins with a hyphen, and asks neither for help nor for the end of the options
abbrev pub is_hyphened : Text → Bool
is_hyphened word = option_map_or (λ byte. byte == 45) (slice_get word 0) false
    && not (bytes_eq word (codes "--") || bytes_eq word (codes "-h") || bytes_eq word (codes "--help"))

-- of words before which so many stand: how many stand before the first that is no option, where that begins with a hyphen
abbrev pub hyphened_at : Text → ℕ → List Text → Option ℕ
hyphened_at name n [] = None
hyphened_at name n (word ∷ words) =
    if is_option_of name word then hyphened_at name (n + 1) words
    else if is_hyphened word then Some n
    else None

-- how many words stand before a FEN that begins with a hyphen
abbrev pub escape_at : List Text → Option ℕ
escape_at (program ∷ name ∷ words) = if takes_fen name then hyphened_at name 2 words else None
escape_at _ = None

abbrev pub escaped_at : Option ℕ → List Text → List Text
escaped_at None words = words
escaped_at (Some n) words = take n words ++ codes "--" ∷ drop n words

-- the words, with `--`, which ends the options, before a FEN that begins with a hyphen
unfoldable pub escaped : List Text → List Text
escaped words = escaped_at (escape_at words) words
