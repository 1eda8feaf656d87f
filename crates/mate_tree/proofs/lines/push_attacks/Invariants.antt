use Rattle.std.proofs.Common.{◌++◌, codes}
use Rattle.mate_tree.specs.Lines.{attack_text}
use Rattle.mate_tree.proofs.AddedLines.{SomeWords}
use Rattle.mate_tree.proofs.lines.push_attacks.Given as goal

abbrev pub invariant-loop-index : goal.invariant-loop-index
invariant-loop-index g l =
    SomeWords g.O.Write.contents l.initial.writer l.writer (λ m. codes " " ++ attack_text l.number l.position m) l.moves l.index
