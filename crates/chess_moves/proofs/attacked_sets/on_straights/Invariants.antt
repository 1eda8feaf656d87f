use Rattle.std.proofs.Common.{◌≡◌, ℕ, ◌<◌, ◌&&◌, ◌||◌}
use Rattle.square_sets.specs.Members.{has}
use Rattle.chess_board.specs.Squares.{some_square}
use Rattle.chess_moves.specs.inside.Directions.{is_on_straight}
use Rattle.chess_moves.proofs.attacked_sets.on_straights.Given as goal

-- those of the men so far, and of the men that are left, are all
abbrev pub invariant-loop-a : goal.invariant-loop-a
invariant-loop-a l = (t : ℕ) → t < 64
    → (has l.set t || some_square (λ a. has l.a-iterator a && is_on_straight a t))
    ≡ some_square (λ a. has l.from a && is_on_straight a t)
