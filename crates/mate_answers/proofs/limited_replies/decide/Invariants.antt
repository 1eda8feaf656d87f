use Rattle.std.proofs.Common.{◌≡◌}
use Rattle.chess_problems.specs.declared.outcomes.Outcome.TheVariants.{NoMate}
use Rattle.mate_answers.specs.LimitedReplies.{problem_within}
use Rattle.mate_search.specs.inside.Truth.{truth}
use Rattle.mate_answers.proofs.limited_replies.decide.Given as goal

-- no mate so far
abbrev pub invariant-loop-none : goal.invariant-loop-none
invariant-loop-none g l = record {
  none : truth (problem_within l.none l.record) ≡ NoMate;
  asks : l.problem ≡ problem_within l.problem.bound l.record;
  room : g.S.Solver.room l.memory ≡ g.S.Solver.room l.fn.memory;
}
