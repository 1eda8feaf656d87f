-- How the attacker goes on.
use Rattle.std.specs.Prelude.{ℕ, List, [], Bool, false, length, nat_lt}
use Rattle.chess_board.specs.Positions.{Setup}
use Rattle.chess_board.specs.Moves.{Move}
use Rattle.chess_problems.specs.declared.outcomes.Outcome.{Outcome}
use Rattle.chess_problems.specs.declared.outcomes.Outcome.TheVariants.{Mate, NoMate}
use Rattle.mate_search.specs.inside.Truth.{truth}

-- What is true of a position with the attacker to move and k moves left: the shortest mate and all moves that begin it, or that there is none.
unfoldable pub soonest : ℕ → Setup → Outcome
soonest k p = truth (record { position = p; bound = k; avoid = [] })

-- There is more than one move to go on.
abbrev pub has_dual : Outcome → Bool
has_dual (Mate n keys pv) = nat_lt 1 (length keys.items)
has_dual NoMate = false

-- all moves that begin the shortest mate
abbrev pub keys_of : Outcome → List Move
keys_of (Mate n keys pv) = keys.items
keys_of NoMate = []
