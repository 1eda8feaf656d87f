-- Not for believing: what there is to say of a problem, as it is computed. It comes to `TruthReads`.
use Rattle.std.specs.Prelude.{ℕ, zero, suc, List, filter, Option, Some, None, not, if◌then◌else◌}
use Rattle.std.specs.List.{list_any}
use Rattle.std.specs.Option.{option_map_or, option_or}
use Rattle.chess_board.specs.Positions.{Setup}
use Rattle.chess_board.specs.Moves.{Move}
use Rattle.chess_moves.specs.inside.Listing.{legal_moves}
use Rattle.chess_problems.specs.declared.outcomes.Outcome.{Outcome}
use Rattle.chess_problems.specs.declared.outcomes.Outcome.TheVariants.{Mate, NoMate}
use Rattle.chess_problems.specs.Problems.{ProblemValue}
use Rattle.chess_problems.specs.SameProblems.{is_same_move}
use Rattle.mate_search.specs.Wins.{win_among}
use Rattle.mate_search.specs.inside.Variation.{keys, variation}

-- the least number of moves, from 1 to b, within which the attacker mates with one of these for its first
unfoldable pub dist : List Move → Setup → ℕ → Option ℕ
dist first p zero = None
dist first p (suc b) = option_or (dist first p b) (if win_among first (suc b) p then Some (suc b) else None)

-- The least number of moves with its keys and its line, or that there is no mate within b moves, where the attacker's first move
-- is one of these. An EPD record has them as dm, bm and pv (PGN Specification, section 16.2.5).
unfoldable pub truth_among : List Move → Setup → ℕ → Outcome
truth_among first p b = option_map_or
    (λ n. Mate n (record { items = keys first p n }) (record { items = variation first p n })) (dist first p b) NoMate

-- the moves that the attacker may begin with: the legal ones that are not to be avoided
unfoldable pub first_moves : ProblemValue → List Move
first_moves q = filter (λ m. not (list_any (is_same_move m) q.avoid)) (legal_moves q.position)

-- the same with these to choose from
unfoldable pub truth : ProblemValue → Outcome
truth q = truth_among (first_moves q) q.position q.bound
