-- Characters as a text has them: by their codes.
use Rattle.std.specs.Prelude.{ℕ, ◌+◌}
use Prim.Native.Char.{Char, code}

-- a character's code, which is its byte where it is an ASCII one
abbrev pub char : Char → ℕ
char c = code c

-- the small letter of a capital: in ASCII it stands 32 places on
abbrev pub small : ℕ → ℕ
small letter = letter + 32
