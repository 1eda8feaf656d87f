use Rattle.std.proofs.Common.{◌≡◌, drop}
use Rattle.std.specs.List.{list_any}
use Rattle.stipulations.specs.Aims.{ends_with}
use Rattle.stipulations.proofs.words.ends_with_one.Given as goal

abbrev pub invariant-loop-end : goal.invariant-loop-end
invariant-loop-end l = list_any (λ end. ends_with l.word end.now) (drop l.end-index l.ends) ≡ list_any (λ end. ends_with l.word end.now) l.ends
