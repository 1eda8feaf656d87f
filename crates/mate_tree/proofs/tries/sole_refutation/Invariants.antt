use Rattle.std.proofs.Common.{◌≡◌, take, filter, true, IfSome}
use Rattle.chess_board.specs.Legality.{is_legal}
use Rattle.mate_tree.specs.Tries.{refutes}
use Rattle.mate_tree.proofs.SoleMoves.{listed}
use Rattle.mate_tree.proofs.tries.sole_refutation.Given as goal

-- of the replies so far one refutes at most
abbrev pub invariant-loop-r : goal.invariant-loop-r
invariant-loop-r l = record {
  found : filter (refutes l.left l.position) (take l.r-index l.r-items) ≡ listed l.found;
  legal : IfSome l.found (λ r. is_legal l.position r ≡ true);
  room : l.memo.room ≡ l.fn.memo.room;
}
