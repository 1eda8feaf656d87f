use Rattle.std.proofs.Common.{◌≡◌, drop}
use Rattle.std.specs.List.{list_any}
use Rattle.std.specs.Str.{str_eq_ignore_ascii_case}
use Rattle.problem_import.proofs.solutions.is_among.Given as goal

abbrev pub invariant-loop-other : goal.invariant-loop-other
invariant-loop-other l =
    list_any (λ other. str_eq_ignore_ascii_case l.word other.now) (drop l.other-index l.others)
    ≡ list_any (λ other. str_eq_ignore_ascii_case l.word other.now) l.others
