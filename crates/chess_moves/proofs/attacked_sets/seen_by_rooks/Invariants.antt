use Rattle.std.proofs.Common.{◌≡◌, ℕ, ◌<◌, ◌&&◌, ◌||◌}
use Rattle.square_sets.specs.Members.{has}
use Rattle.chess_board.specs.Squares.{some_square}
use Rattle.chess_moves.specs.inside.Directions.{reaches_as_rook}
use Rattle.chess_moves.proofs.attacked_sets.seen_by_rooks.Given as goal

-- those of the men so far, and of the men that are left, are all
abbrev pub invariant-loop-a : goal.invariant-loop-a
invariant-loop-a l = (t : ℕ) → t < 64
    → (has l.set t || some_square (λ a. has l.a-iterator a && reaches_as_rook (has l.occupied) a t))
    ≡ some_square (λ a. has l.from a && reaches_as_rook (has l.occupied) a t)
