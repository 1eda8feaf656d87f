use Rattle.std.proofs.Common.{◌≡◌}
use Rattle.chess_problems.specs.declared.outcomes.Outcome.TheVariants.{NoMate}
use Rattle.mate_search.specs.inside.Truth.{truth}
use Rattle.file_solving.proofs.Within.{problem_within}
use Rattle.file_solving.proofs.lengths.solve_by_length.Given as goal

-- no mate so far
abbrev pub invariant-loop-none : goal.invariant-loop-none
invariant-loop-none g l = record {
  none : truth (problem_within l.none l.problem) ≡ NoMate;
  room : g.V.Solver.room l.memory ≡ g.V.Solver.room l.fn.memory;
}
