use Rattle.std.proofs.Common.{◌≡◌, ℕ, ◌<◌, not, ◌&&◌}
use Rattle.square_sets.specs.Members.{has}
use Rattle.chess_board.specs.Squares.{some_square}
use Rattle.chess_moves.specs.inside.LegalityInfo.{gets_through}
use Rattle.chess_moves.proofs.checks_and_pins.capture_or_block.Given as goal

-- allowed so far, and through none of the attackers that are left
abbrev pub invariant-loop-a : goal.invariant-loop-a
invariant-loop-a l = (t : ℕ) → t < 64
    → (has l.allowed t && not (some_square (λ a. has l.a-iterator a && gets_through a l.king t)))
    ≡ not (some_square (λ a. has l.attackers a && gets_through a l.king t))
