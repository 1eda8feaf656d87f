use Rattle.std.proofs.Common.{◌≡◌, ℕ, ◌<◌, cond, ltb, None, length}
use Rattle.chess_board.specs.Positions.{man_at}
use Rattle.chess_board.proofs.boards.Board.places.Given as goal

abbrev pub invariant-loop-number : goal.invariant-loop-number
invariant-loop-number l = record {
  squares : length l.places ≡ 64;
  filled : (k : ℕ) → k < 64 → man_at l.places k ≡ cond (ltb k l.number) (man_at l.self k) None;
}
