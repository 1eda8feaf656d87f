use Rattle.std.proofs.Common.{refl}
use Rattle.problem_import.specs.inside.ReadProblems.{IsRead}
use Rattle.problem_import.proofs.popeye.PopeyeProblem.new.Goals as goal

pub returns : goal.returns
unfolding IsRead
returns c = λ free. record { men = c.new-2.ensures; awaited = tt; asked = refl }
