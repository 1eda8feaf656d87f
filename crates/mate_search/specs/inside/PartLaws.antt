-- Not for believing: what the parts come to from which the truth is put together. `TruthReads` says it of the whole.
use Rattle.std.specs.Prelude.{◌≡◌, ◌↔◌, ℕ, ◌<◌, ◌≤◌, true, false, List, Some, None, Contains}
use Rattle.chess_board.specs.Positions.{Setup}
use Rattle.chess_board.specs.Moves.{Move}
use Rattle.chess_moves.specs.inside.Listing.{legal_moves}
use Rattle.chess_moves.specs.Laws.{IsRising}
use Rattle.mate_search.specs.Wins.{win, win_among}
use Rattle.mate_search.specs.inside.Variation.{keys, variation}
use Rattle.mate_search.specs.PrincipalVariation.{IsKey, IsPrincipalVariation}
use Rattle.mate_search.specs.inside.Truth.{dist}

-- Over all legal moves `win_among` is `win`.
abbrev pub AmongAll : Type 0
AmongAll = (n : ℕ) (p : Setup) → win_among (legal_moves p) n p ≡ win n p

-- The list of the keys has each key, and nothing else.
abbrev pub KeysRead : Type 0
KeysRead = (first : List Move) (p : Setup) (n : ℕ) (m : Move) → Contains (keys first p n) m ↔ IsKey first p n m

-- Where the first moves rise in the order of moves, so do the keys.
abbrev pub KeysRise : Type 0
KeysRise = (first : List Move) (p : Setup) (n : ℕ) → IsRising first → IsRising (keys first p n)

-- The least number of moves is from 1 to the bound; there is a mate within it, and none within fewer.
abbrev pub DistReads : Type 0
DistReads = (first : List Move) (p : Setup) (b n : ℕ) → (dist first p b ≡ Some n) ↔
    ((1 ≤ n) × (n ≤ b) × (win_among first n p ≡ true) × ((k : ℕ) → k < n → win_among first k p ≡ false))

-- There is none where there is no mate within the bound.
abbrev pub NoDistReads : Type 0
NoDistReads = (first : List Move) (p : Setup) (b : ℕ) → (dist first p b ≡ None) ↔
    ((n : ℕ) → n ≤ b → win_among first n p ≡ false)

-- The variation to a mate within the least number of moves is the principal variation as a chess player reads it.
abbrev pub LineReads : Type 0
LineReads = (first : List Move) (p : Setup) (b n : ℕ) → IsRising first → dist first p b ≡ Some n
    → IsPrincipalVariation first p n (variation first p n)
