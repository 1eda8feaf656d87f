-- The members of a set of squares that is kept in a word of 64 bits.
use Rattle.std.specs.Prelude.{ℕ, zero, suc, ◌==◌, Bool, if◌then◌else◌, List, [], ◌∷◌, ◌++◌}
use Rattle.std.specs.Int.{bit_at}

-- The square is in the set.
abbrev pub has : ℕ → ℕ → Bool
has set square = bit_at set square == 1

-- the squares of the set below n, each once, rising
unfoldable pub members_below : ℕ → ℕ → List ℕ
members_below set zero = []
members_below set (suc n) = members_below set n ++ (if has set n then n ∷ [] else [])

-- the squares of the set, each once, rising
unfoldable pub members : ℕ → List ℕ
members set = members_below set 64
