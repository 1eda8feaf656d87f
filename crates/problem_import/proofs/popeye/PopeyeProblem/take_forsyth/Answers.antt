use Rattle.std.proofs.Common.{refl}
use Rattle.problem_import.proofs.ReadProblems.{forsyth_taken, takes_faulty}
use Rattle.problem_import.proofs.popeye.PopeyeProblem.take_forsyth.Goals as goal

pub returns-in-Err : goal.returns-in-Err
returns-in-Err c = λ other. takes_faulty c.args.word.now c.args.self.now _ c.note.ensures

pub returns-in_default : goal.returns-in_default
returns-in_default c = λ other. forsyth_taken c.args.word.now c.args.self.now _ c.requires other (c.in_default.ensures) refl refl refl
