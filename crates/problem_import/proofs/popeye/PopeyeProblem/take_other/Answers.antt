use Rattle.problem_import.proofs.ReadProblems.{option_taken, takes_faulty}
use Rattle.problem_import.proofs.popeye.PopeyeProblem.take_other.Goals as goal

pub returns-in-Option : goal.returns-in-Option
returns-in-Option c = λ other. option_taken c.args.word.now c.args.self.now c.in-Option.is other

pub returns-in-Condition : goal.returns-in-Condition
returns-in-Condition c = λ other. takes_faulty c.args.word.now c.args.self.now _ c.note.ensures

pub returns-in_default : goal.returns-in_default
returns-in_default c = λ other. takes_faulty c.args.word.now c.args.self.now _ c.note-in_default.ensures
