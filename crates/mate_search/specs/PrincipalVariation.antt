-- Keys and the principal variation, as a chess player reads them.
use Rattle.std.specs.Prelude.{◌≡◌, ℕ, ◌+◌, ◌-◌, ◌≤◌, true, false, List, [], ◌∷◌, Contains}
use Rattle.chess_board.specs.Positions.{Setup}
use Rattle.chess_board.specs.Moves.{Move, move_place}
use Rattle.chess_board.specs.MakeMove.{after_setup}
use Rattle.chess_moves.specs.inside.Listing.{legal_moves}
use Rattle.mate_search.specs.Wins.{win, lost}

-- A key of a mate within n moves: one of these moves that leaves the defender lost with n - 1 more.
abbrev pub IsKey : List Move → Setup → ℕ → Move → Type 0
IsKey first p n m = Contains first m × (lost (n - 1) (after_setup p m) ≡ true)

-- the key that comes first in the order of moves
abbrev pub IsFirstKey : List Move → Setup → ℕ → Move → Type 0
IsFirstKey first p n m = IsKey first p n m × ((k : Move) → IsKey first p n k → move_place m ≤ move_place k)

-- After one reply the defender lasts longer than after another: within some number of moves the attacker mates after the other
-- and does not after the one.
abbrev pub LastsLonger : Setup → Move → Move → Type 0
LastsLonger q one other = (k : ℕ) × (win k (after_setup q other) ≡ true) × (win k (after_setup q one) ≡ false)

-- The longest defence: no legal reply lasts longer, and this one is the first in the order of moves of those that last as long.
abbrev pub IsLongestDefence : Setup → Move → Type 0
IsLongestDefence q r = Contains (legal_moves q) r
    × ((s : Move) → Contains (legal_moves q) s → ¬ LastsLonger q s r)
    × ((s : Move) → Contains (legal_moves q) s → ¬ LastsLonger q r s → move_place r ≤ move_place s)

-- The principal variation of a mate in so many moves, the attacker's first one of these: a mate in one is its first key. A longer mate
-- goes on after its first key with the longest defence, and then with that of the position after both, to a mate in one move
-- less, with every legal move to choose from.
pub data IsPrincipalVariation : List Move → Setup → ℕ → List Move → Type 0 where
  mates : (first : List Move) (p : Setup) (m : Move) → IsFirstKey first p 1 m → IsPrincipalVariation first p 1 (m ∷ [])
  goes_on : (first : List Move) (p q s : Setup) (n : ℕ) (m r : Move) (rest : List Move) → 1 ≤ n
      → IsFirstKey first p (n + 1) m → q ≡ after_setup p m → IsLongestDefence q r → s ≡ after_setup q r
      → IsPrincipalVariation (legal_moves s) s n rest → IsPrincipalVariation first p (n + 1) (m ∷ r ∷ rest)
