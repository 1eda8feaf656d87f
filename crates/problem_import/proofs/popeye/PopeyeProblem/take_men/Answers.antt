use Rattle.std.proofs.Common.{refl}
use Rattle.problem_import.proofs.ReadProblems.{men_taken, takes_faulty}
use Rattle.problem_import.proofs.popeye.PopeyeProblem.take_men.Goals as goal

pub returns-in_default : goal.returns-in_default
returns-in_default c = λ other. takes_faulty c.args.word.now c.args.self.now _ c.note.ensures

pub returns-in-Err : goal.returns-in-Err
returns-in-Err c = λ other. takes_faulty c.args.word.now c.args.self.now _ c.note-in-Err.ensures

pub returns-in_default-put_word : goal.returns-in_default-put_word
returns-in_default-put_word c = λ other. men_taken c.args.word.now c.args.self.now _ c.in-Some.colour c.requires other c.in_default-put_word.ensures.men c.in-Some.is c.in_default-put_word.ensures.put
    refl refl refl refl
