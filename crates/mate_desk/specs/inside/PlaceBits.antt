-- Not for believing: which places of a queue are in a word of 64 bits. No contract of a public call rests on it.
use Rattle.std.specs.Prelude.{ℕ, ◌==◌, Bool}
use Rattle.std.specs.Int.{bit_at}

-- The place is in the word.
abbrev pub has_place : ℕ → ℕ → Bool
has_place word place = bit_at word place == 1
