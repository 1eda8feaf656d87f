-- The numbers that the command line bounds: the depth of `perft`, the workers of `serve`, the entries of a memo, and numbers of lines.
use Rattle.std.specs.Prelude.{ℕ, Option, Some, None, ◌&&◌, nat_le, if◌then◌else◌}

abbrev pub max_depth : ℕ
max_depth = 6

-- the depth, where the number is one
abbrev pub depth_of : ℕ → Option ℕ
depth_of n = if nat_le n max_depth then Some n else None

abbrev pub max_workers : ℕ
max_workers = 16

-- the number of workers, where the number is one
abbrev pub workers_of : ℕ → Option ℕ
workers_of n = if nat_le 1 n && nat_le n max_workers then Some n else None

abbrev pub max_memo_entries : ℕ
max_memo_entries = 268435456

-- the number of entries of a memo, where the number is one
abbrev pub memo_size_of : ℕ → Option ℕ
memo_size_of n = if nat_le 1 n && nat_le n max_memo_entries then Some n else None

abbrev pub max_line_number : ℕ
max_line_number = 1000000000

-- the number of a line, where the number is one
abbrev pub line_number_of : ℕ → Option ℕ
line_number_of n = if nat_le 1 n && nat_le n max_line_number then Some n else None
