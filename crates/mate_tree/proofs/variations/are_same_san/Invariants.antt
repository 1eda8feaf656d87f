use Rattle.std.proofs.Common.{◌≡◌, length, map}
use Rattle.chess_notation.specs.SanText.{san_text}
use Rattle.chess_problems.specs.Outcomes.{AreLegal}
use Rattle.mate_tree.specs.Variations.{same_texts}
use Rattle.mate_tree.proofs.variations.are_same_san.Given as goal

abbrev pub decreases-loop-ours : goal.decreases-loop-ours
decreases-loop-ours l = length l.ours

-- those that are still to be compared
abbrev pub invariant-loop-ours : goal.invariant-loop-ours
invariant-loop-ours l = record {
  same : same_texts (map (san_text l.first) l.ours) (map (san_text l.second) l.theirs)
      ≡ same_texts (map (san_text l.first) l.left) (map (san_text l.second) l.right);
  ours : AreLegal l.first l.ours;
  theirs : AreLegal l.second l.theirs;
}
