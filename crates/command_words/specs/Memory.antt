-- How much memory `--memory` says, and how many entries memos have for it.
use Rattle.std.specs.Prelude.{ℕ, ◌==◌, ◌&&◌, ◌||◌, ◌-◌, ◌*◌, ◌/◌, Bool, List, Option, Some, None, length, take, get_or, max, nat_le}
use Rattle.std.specs.Prelude.{option_and_then, if◌then◌else◌}
use Rattle.std.specs.List.{list_all}
use Rattle.chess_board.specs.Characters.{char}
use Rattle.chess_board.specs.Fields.{digits_value}
use Rattle.command_words.specs.Limits.{memo_size_of}

abbrev pub is_decimal : ℕ → Bool
is_decimal byte = nat_le (char "0") byte && nat_le byte (char "9")

-- the bytes that a letter behind a number stands for: 2^10, 2^20 or 2^30; none where it is none of these
abbrev pub unit_of : ℕ → ℕ
unit_of letter =
    if letter == char "K" || letter == char "k" then 1024
    else if letter == char "M" || letter == char "m" then 1048576
    else if letter == char "G" || letter == char "g" then 1073741824
    else 0

-- the most memory that may be said, 32 G
abbrev pub max_memory : ℕ
max_memory = 34359738368

-- a number of bytes that may be said, from 1 K on
abbrev pub memory_of : ℕ → Option ℕ
memory_of bytes = if nat_le 1024 bytes && nat_le bytes max_memory then Some bytes else None

-- the bytes that a text says: decimal digits with such a letter behind them
abbrev pub memory_said : List ℕ → Option ℕ
memory_said text =
    let digits = take (length text - 1) text in
    if list_all is_decimal digits then memory_of (digits_value digits * unit_of (get_or text (length text - 1) 0)) else None

-- the bytes that an entry of a memo is said to take, with all that is kept beside it
abbrev pub bytes_an_entry : ℕ
bytes_an_entry = 160

-- how many entries each of so many memos has, one at least, where together they are to take as much memory as a text says
abbrev pub shared_size_of : ℕ → List ℕ → Option ℕ
shared_size_of memos text =
    option_and_then (λ bytes. memo_size_of (max 1 (bytes / (memos * bytes_an_entry)))) (memory_said text)
