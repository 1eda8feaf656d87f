use Rattle.std.proofs.Common.{◌≡◌, List, length}
use Rattle.chess_notation.specs.Words.{words_in}
use Rattle.problem_import.specs.OliveProblems.{Said, items_onto}
use Rattle.problem_import.specs.inside.ReadProblems.{AreRead}
use Rattle.problem_import.proofs.olive.OliveProblem.take_items.Given as goal

abbrev pub invariant-loop-rest : goal.invariant-loop-rest
invariant-loop-rest l = (said : List Said) → AreRead said l.initial.self → (now : List Said) × AreRead now l.self
    × (items_onto (words_in l.rest) now ≡ items_onto (words_in l.text) said)

abbrev pub decreases-loop-rest : goal.decreases-loop-rest
decreases-loop-rest l = length l.rest
