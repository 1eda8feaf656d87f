use Rattle.std.proofs.Common.{refl}
use Rattle.problem_import.specs.declared.olive.Section.TheVariants as sections
use Rattle.problem_import.proofs.ReadItems.{man_taken, takes_faulty_item}
use Rattle.problem_import.proofs.olive.OliveProblem.take_white.Goals as goal

pub returns-in-Err : goal.returns-in-Err
returns-in-Err c = takes_faulty_item c.args.word.now c.args.self.now _ c.note.ensures

pub returns-in_default : goal.returns-in_default
returns-in_default c =
    man_taken c.args.word.now c.args.self.now _ sections.White c.requires c.in_default.ensures.put (λ before. refl) refl refl refl
