use Rattle.std.proofs.Common.{◌+◌, ◌-◌, ◌*◌}
use Rattle.mate_tree.specs.Variations.{next_move, variation, variations}
use Rattle.mate_tree.proofs.AddedLines.{SomeLines}
use Rattle.mate_tree.proofs.variations.+play.Given as goal

abbrev pub decreases-write_variations : goal.decreases-write_variations
decreases-write_variations g l = 5 * l.at.shown

abbrev pub decreases-write_variation : goal.decreases-write_variation
decreases-write_variation g l = 5 * l.at.shown - 1

abbrev pub decreases-write_sequels : goal.decreases-write_sequels
decreases-write_sequels g l = 5 * l.at.shown - 2

abbrev pub decreases-write_next_moves : goal.decreases-write_next_moves
decreases-write_next_moves g l = 5 * l.at.shown + 2

abbrev pub decreases-write_next_move : goal.decreases-write_next_move
decreases-write_next_move g l = 5 * l.at.shown + 1

-- the replies so far
abbrev pub invariant-write_variations-loop-index : goal.invariant-write_variations-loop-index
invariant-write_variations-loop-index g l =
    SomeLines g.O.Write.contents l.initial.writer l.writer
    (variation (variations (l.at.shown - 1) (l.at.number + 1))
    (l.at.shown - 1) l.at.number l.at.left l.position l.replies) l.replies l.index

-- the moves so far
abbrev pub invariant-write_next_moves-loop-index : goal.invariant-write_next_moves-loop-index
invariant-write_next_moves-loop-index g l =
    SomeLines g.O.Write.contents l.initial.writer l.writer
    (next_move (variations l.at.shown l.at.number) l.at.shown l.at.number l.at.left l.position) l.moves l.index
