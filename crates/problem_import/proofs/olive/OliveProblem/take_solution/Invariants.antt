use Rattle.problem_import.specs.inside.ReadProblems.{KeepsItems}
use Rattle.problem_import.proofs.olive.OliveProblem.take_solution.Given as goal

abbrev pub invariant-loop : goal.invariant-loop
invariant-loop l = KeepsItems l.initial.self l.self
