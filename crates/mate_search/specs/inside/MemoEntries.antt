-- Not for believing: what holds of every memo. No contract of a public call rests on it.
use Rattle.std.specs.Prelude.{◌≡◌, ℕ, ◌≤◌, true, false, List, length, Some, Contains}
use Rattle.chess_board.specs.Positions.{Setup}
use Rattle.chess_board.specs.Soundness.{IsSound}
use Rattle.mate_search.specs.declared.memo_entries.Entry.{Entry}
use Rattle.mate_search.specs.Wins.{win}

-- What an entry says of a position is true: there is no mate within the first number of moves, and one within the second, if any.
pub record IsTrueOf (p : Setup) (entry : Entry) : Type 0 where
  pub sound : IsSound p
  pub none : win entry.none_within p ≡ false
  pub won : (n : ℕ) → entry.win_within ≡ Some n → win n p ≡ true

-- a position, and what is known of it
pub record LearnedValue : Type 0 where
  pub position : Setup
  pub known : Entry

-- Each entry says the truth about its position.
abbrev pub AreTrue : List (Setup × Entry) → Type 0
AreTrue entries = (e : Setup × Entry) → Contains entries e → IsTrueOf e.0 e.1

-- The entries of a memo are true, and no more than it may keep, whatever happened to it. It may keep as many as it has room for, unless it
-- waits to ask again for memory that was refused, and never more.
pub record IsTrueMemo (entries : List (Setup × Entry)) (cap room waiting : ℕ) : Type 0 where
  pub each_true : AreTrue entries
  pub within : length entries ≤ cap
  pub some_room : 1 ≤ cap
  pub in_room : cap ≤ room
  pub whole : waiting ≡ 0 → cap ≡ room
