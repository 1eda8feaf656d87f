use Rattle.std.proofs.Common.{refl}
use Rattle.solver.specs.Ends.{solved}
use Rattle.solver.proofs.solving.answer.Goals as goal

pub returns-clause-ends : goal.returns-clause-ends
returns-clause-ends g c =
    rw (c.in-Some.is, c.in-Solve.is) (solved _ _ _ _ c.solve-ended.result refl c.status_of.ensures c.solve-ended.ensures.ok c.solve-ended.ensures.err)
