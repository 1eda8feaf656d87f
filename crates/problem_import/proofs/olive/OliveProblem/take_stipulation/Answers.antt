use Rattle.std.proofs.Common.{refl}
use Rattle.problem_import.proofs.ReadItems.{stipulation_item, takes_faulty_item}
use Rattle.problem_import.proofs.olive.OliveProblem.take_stipulation.Goals as goal

pub returns-in-Some : goal.returns-in-Some
returns-in-Some c = stipulation_item c.args.word.now c.args.self.now _ c.in-Some.moves c.requires c.in-Some.ensures refl refl refl refl

pub returns-in_default : goal.returns-in_default
returns-in_default c = takes_faulty_item c.args.word.now c.args.self.now _ c.note.ensures
