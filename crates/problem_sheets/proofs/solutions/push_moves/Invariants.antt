use Rattle.std.proofs.Common.{◌≡◌, ◌++◌, take}
use Rattle.std.specs.List.{flat_map}
use Rattle.problem_sheets.specs.Solutions.{figurine}
use Rattle.problem_sheets.proofs.solutions.push_moves.Given as goal

abbrev pub invariant-loop-byte : goal.invariant-loop-byte
invariant-loop-byte l = l.text.items ≡ l.fn.text.items ++ flat_map figurine (take l.byte-index l.moves)
