use Rattle.std.proofs.Common.{◌≡◌, drop}
use Rattle.std.specs.List.{list_all}
use Rattle.problem_import.specs.Mendable.{is_settled}
use Rattle.problem_import.proofs.line_kinds.have_no_mendable.Given as goal

abbrev pub invariant-loop-byte : goal.invariant-loop-byte
invariant-loop-byte l = list_all is_settled (drop l.byte-index l.line) ≡ list_all is_settled l.line
