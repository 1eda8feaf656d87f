use Rattle.std.proofs.Common.{refl}
use Rattle.problem_import.proofs.ReadItems.{are_new}
use Rattle.problem_import.proofs.olive.OliveProblem.new.Goals as goal

pub returns : goal.returns
returns c = are_new _ c.new-5.ensures refl refl
