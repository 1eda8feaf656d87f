use Rattle.std.proofs.Common.{◌≡◌, ◌<◌, true, filter, length}
use Rattle.std.specs.List.{list_any, list_all}
use Rattle.chess_board.specs.MakeMove.{after_setup}
use Rattle.chess_board.specs.Legality.{is_legal}
use Rattle.chess_moves.specs.inside.Listing.{moves_to}
use Rattle.chess_moves.specs.Verdicts.{is_mate}
use Rattle.chess_moves.specs.inside.MoveGeneration.{man_moves}
use Rattle.chess_moves.proofs.mate_in_one.mates_on.Given as goal

-- no move so far mates
abbrev pub invariant-loop-left : goal.invariant-loop-left
invariant-loop-left l = record {
  any : list_any (λ m. is_mate (after_setup l.info.position.now m)) (man_moves l.left)
      ≡ list_any (λ m. is_mate (after_setup l.info.position.now m)) (filter (is_legal l.info.position.now) (moves_to l.fn.mover.origin 64));
  legal : list_all (is_legal l.info.position.now) (man_moves l.left) ≡ true;
  on_board : l.left.mover.origin < 64;
}

abbrev pub decreases-loop-left : goal.decreases-loop-left
decreases-loop-left l = length (man_moves l.left)
