use Rattle.std.proofs.Common.{◌≡◌, ◌<◌, ◌≤◌, ◌+◌, ◌++◌, true, filter, length}
use Rattle.std.specs.List.{list_all}
use Rattle.arrayvec.specs.ArrayVec.{array_vec_len}
use Rattle.chess_board.specs.MakeMove.{after_setup}
use Rattle.chess_board.specs.Legality.{is_legal}
use Rattle.chess_moves.specs.Verdicts.{is_mate}
use Rattle.chess_moves.specs.inside.MateInOne.{mates_of}
use Rattle.chess_moves.specs.inside.MoveGeneration.{man_moves}
use Rattle.chess_moves.proofs.mating_moves.push_mates_on.Given as goal

-- those listed, and those that are still to come
abbrev pub invariant-loop-left : goal.invariant-loop-left
invariant-loop-left l = record {
  kept : l.out.items ++ filter (λ m. is_mate (after_setup l.info.position.now m)) (man_moves l.left) ≡ l.fn.out.items ++ mates_of l.info.position.now l.fn.mover.origin;
  room : array_vec_len l.out + length (filter (λ m. is_mate (after_setup l.info.position.now m)) (man_moves l.left)) ≤ 1024;
  legal : list_all (is_legal l.info.position.now) (man_moves l.left) ≡ true;
  on_board : l.left.mover.origin < 64;
}

abbrev pub decreases-loop-left : goal.decreases-loop-left
decreases-loop-left l = length (man_moves l.left)
