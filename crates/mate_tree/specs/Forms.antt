-- How much of a tree is shown (own to this project).
use Rattle.std.specs.Prelude.{ℕ, Option, Some, None, nat_le, if◌then◌else◌}

-- how many of the attacker's moves are shown: as many as are asked for, or else all of a mate in up to 3, and 2 of a longer one
abbrev pub moves_shown : Option ℕ → ℕ → ℕ
moves_shown (Some d) n = d
moves_shown None n = if nat_le n 3 then n else 2
