use Rattle.std.proofs.Common.{subst}
use Rattle.problem_import.proofs.ReadItems.{items_ask, items_set}
use Rattle.problem_import.specs.inside.ReadProblems.{IsSetAs}
use Rattle.problem_import.proofs.olive.OliveProblem.made.Goals as goal

pub returns : goal.returns
returns c = λ said read. (
  items_set said c.args.self.now c.in_ok-text.text.items c.in_default.is read
      (subst (IsSetAs c.args.self.now.diagram.men) c.as_slice.ensures.value (c.is_said_by.ensures c.if-not-is_said_by.false)),
  items_ask said c.args.self.now c.in-Some-bound.moves c.in_default.is read c.in-Some-bound.is,
)
