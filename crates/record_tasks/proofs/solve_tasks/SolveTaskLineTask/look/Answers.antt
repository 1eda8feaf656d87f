use Rattle.std.proofs.Common.{ap}
use Rattle.record_tasks.proofs.Solving.{solved_refused}
use Rattle.record_tasks.proofs.solve_tasks.SolveTaskLineTask.look.Goals as goal

pub returns-clause-reply : goal.returns-clause-reply
returns-clause-reply c filled =
    solved_refused c.args.self.now.default c.args.number c.args.line.now c.in_ok-output.output.text.items c.uncounted.result.text.items
    c.in-Err.fault c.in_ok-output.output.refused c.uncounted.result.refused filled c.in-Err.ensures.refused c.in_ok-output.ensures.fault
    c.in_ok-output.ensures.text c.in_ok-output.ensures.one (ap (λ v. v.items) c.uncounted.ensures.text) c.uncounted.ensures.refused
