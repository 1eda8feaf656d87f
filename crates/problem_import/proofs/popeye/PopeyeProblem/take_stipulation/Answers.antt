use Rattle.std.proofs.Common.{refl}
use Rattle.problem_import.proofs.ReadProblems.{stipulation_taken, takes_faulty}
use Rattle.problem_import.proofs.popeye.PopeyeProblem.take_stipulation.Goals as goal

pub returns-in-Some : goal.returns-in-Some
returns-in-Some c = λ other. stipulation_taken c.args.word.now c.args.self.now _ c.in-Some.moves c.requires other c.in-Some.ensures refl refl refl refl

pub returns-in_default : goal.returns-in_default
returns-in_default c = λ other. takes_faulty c.args.word.now c.args.self.now _ c.note.ensures
