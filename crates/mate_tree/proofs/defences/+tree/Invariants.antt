use Rattle.std.proofs.Common.{◌+◌, ◌-◌, ◌*◌}
use Rattle.mate_tree.specs.Defences.{attack, defence, defences}
use Rattle.mate_tree.proofs.AddedLines.{SomeLines}
use Rattle.mate_tree.proofs.defences.+tree.Given as goal

abbrev pub decreases-write_defences : goal.decreases-write_defences
decreases-write_defences g l = 4 * l.at.shown

abbrev pub decreases-write_defence : goal.decreases-write_defence
decreases-write_defence g l = 4 * l.at.shown - 1

abbrev pub decreases-write_attacks : goal.decreases-write_attacks
decreases-write_attacks g l = 4 * l.at.shown + 2

abbrev pub decreases-write_attack : goal.decreases-write_attack
decreases-write_attack g l = 4 * l.at.shown + 1

-- the defences so far
abbrev pub invariant-write_defences-loop-r : goal.invariant-write_defences-loop-r
invariant-write_defences-loop-r g l =
    SomeLines g.O.Write.contents l.initial.writer l.writer
    (defence (defences (l.at.shown - 1) (l.at.number + 1))
    (l.at.shown - 1) l.at.number l.at.left l.position) l.r-items l.r-index

-- the moves so far
abbrev pub invariant-write_attacks-loop-index : goal.invariant-write_attacks-loop-index
invariant-write_attacks-loop-index g l =
    SomeLines g.O.Write.contents l.initial.writer l.writer
    (attack (defences l.at.shown l.at.number) l.at.shown l.at.number l.at.left l.position) l.moves l.index
