use Rattle.std.proofs.Common.{drop}
use Rattle.chess_moves.specs.Laws.{IsLine}
use Rattle.problem_tests.proofs.answer_tests.is_line.Given as goal

abbrev pub invariant-loop-m : goal.invariant-loop-m
invariant-loop-m l = IsLine l.now (drop l.m-index l.moves) → IsLine l.position l.moves
