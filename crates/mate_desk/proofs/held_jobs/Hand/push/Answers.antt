use Rattle.std.proofs.Common.{arith, rules, ◌≡◌, ◌∙◌, ◌++◌, ◌∷◌, [], ap, length, vec_len}
use Rattle.mate_desk.specs.inside.HeldJobs.{HandValue}
use Rattle.mate_desk.proofs.JobOrder.{named_more, jobs_more}
use Rattle.mate_desk.proofs.held_jobs.Hand.push.Goals as goal

pub invariant_of-self : goal.invariant_of-self
invariant_of-self c = (
  omega (arith, c.self.invariant.0, c.push_reserved.ensures.len, c.push_reserved-2.ensures.len),
  omega (arith, c.self.invariant.1, c.push_reserved.ensures.capacity, c.push_reserved-2.ensures.capacity),
  rw (c.push_reserved.ensures.items, c.push_reserved-2.ensures.len, c.len.ensures) (named_more c.self.inside.order.items _ c.self.invariant.2),
)

pub returns-clause-jobs : goal.returns-clause-jobs
returns-clause-jobs c =
    let long : length c.self.inside.jobs.items ≡ vec_len c.self.inside.jobs = search rules in
    rw (c.push_reserved.ensures.items, c.push_reserved-2.ensures.items, c.len.ensures)
    (jobs_more c.self.inside.jobs.items c.self.inside.order.items c.args.job _ long c.self.invariant.2
    ∙ ap (λ (h : HandValue). h.jobs ++ c.args.job ∷ []) c.self.view_is)
