use Rattle.std.proofs.Common.{refl}
use Rattle.problem_import.specs.inside.ReadProblems.{KeepsSaid}
use Rattle.problem_import.proofs.popeye.PopeyeProblem.obey.Goals as goal

pub returns-in_ok-push_id-in-Text : goal.returns-in_ok-push_id-in-Text
unfolding KeepsSaid
returns-in_ok-push_id-in-Text c = λ free. (free, refl, refl, refl, refl)

pub returns-in-Conditions : goal.returns-in-Conditions
unfolding KeepsSaid
returns-in-Conditions c = λ free. absurd (c.note.ensures free)

pub returns-in-Begin : goal.returns-in-Begin
unfolding KeepsSaid
returns-in-Begin c = λ free. absurd (c.note-in-Begin.ensures free)

pub returns-in_default : goal.returns-in_default
unfolding KeepsSaid
returns-in_default c = λ free. (free, refl, refl, refl, refl)
