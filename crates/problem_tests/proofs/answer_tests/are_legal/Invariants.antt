use Rattle.std.proofs.Common.{drop}
use Rattle.chess_problems.specs.Outcomes.{AreLegal}
use Rattle.problem_tests.proofs.answer_tests.are_legal.Given as goal

abbrev pub invariant-loop-m : goal.invariant-loop-m
invariant-loop-m l = AreLegal l.position (drop l.m-index l.moves) → AreLegal l.position l.moves
