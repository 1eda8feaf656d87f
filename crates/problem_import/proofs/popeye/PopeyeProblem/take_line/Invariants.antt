use Rattle.std.proofs.Common.{◌≡◌, List, ℕ, length, false}
use Rattle.chess_notation.specs.Words.{words_in}
use Rattle.problem_import.specs.PopeyeProblems.{has_end, said_onto}
use Rattle.problem_import.specs.inside.ReadProblems.{IsRead}
use Rattle.problem_import.proofs.popeye.PopeyeProblem.take_line.Given as goal

-- what the words of the line so far say was read, and none of them ended the problem
abbrev pub invariant-loop-rest : goal.invariant-loop-rest
invariant-loop-rest l = (words : List (List ℕ)) → (said : List (List ℕ)) × (IsRead words l.initial.self → IsRead said l.self)
    × (has_end words ≡ false → has_end said ≡ false) × (said_onto (words_in l.rest) said ≡ said_onto (words_in l.line) words)

abbrev pub decreases-loop-rest : goal.decreases-loop-rest
decreases-loop-rest l = length l.rest
