use Rattle.problem_import.proofs.ReadItems.{no_items, other_taken}
use Rattle.problem_import.proofs.olive.OliveProblem.take_item.Goals as goal

pub returns-in_default : goal.returns-in_default
returns-in_default c = other_taken c.args.word.now c.args.self.now _
    (no_items c.args.self.now.section c.in_default.not-White c.in_default.not-Black c.in_default.not-Stipulation) c.take_other.ensures
