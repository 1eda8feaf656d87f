use Rattle.std.proofs.Common.{◌≡◌, ◌++◌, drop, filter}
use Rattle.chess_notation.specs.Answers.{entries_text}
use Rattle.problem_sheets.specs.Problems.{is_id}
use Rattle.problem_sheets.proofs.problems.push_operations.Given as goal

abbrev pub invariant-loop-operation : goal.invariant-loop-operation
invariant-loop-operation l =
    l.text.items ++ entries_text (filter is_id (drop l.operation-index l.operations)) ≡ l.fn.text.items ++ entries_text (filter is_id l.operations)
