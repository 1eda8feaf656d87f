use Rattle.std.proofs.Common.{refl}
use Rattle.problem_import.proofs.ReadProblems.{colour_taken, takes_faulty}
use Rattle.problem_import.proofs.popeye.PopeyeProblem.take_colour.Goals as goal

pub returns-then-is_none : goal.returns-then-is_none
returns-then-is_none c = λ other. takes_faulty c.args.word.now c.args.self.now _ c.note.ensures

pub returns-else-is_none : goal.returns-else-is_none
returns-else-is_none c = λ other.
    colour_taken c.args.word.now c.args.self.now _ c.requires.awaited other c.requires.other c.colour_of-self.ensures refl refl refl refl
