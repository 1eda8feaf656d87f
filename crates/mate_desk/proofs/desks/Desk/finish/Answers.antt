use Rattle.std.proofs.Common.{subst, set, arith}
use Rattle.mate_desk.specs.Content.{Content, QueueValue, Finished, is_out_with}
use Rattle.mate_desk.specs.Calls.{into_phase}
use Rattle.mate_desk.proofs.Changes.{got_inside}
use Rattle.mate_desk.proofs.Following.{kept_follows, follows_map, phase_keeps, Follows}
use Rattle.mate_desk.proofs.Steps.{holding, came_back, CameBack, found_out, FoundOut}
use Rattle.mate_desk.proofs.desks.Desk.finish.Goals as goal

pub index_mut-requires : goal.index_mut-requires
index_mut-requires c =
    let at = rw (c.ticket.ensures, c.problem.ensures, c.deref.ensures.value) at c.in-Some.ensures.some in
    omega (arith, got_inside c.self.inside.queues.items c.in-Some.s at.queue at.there, c.self.inside.queues.ok.0)

pub finish-requires : goal.finish-requires
finish-requires c =
    let at = rw (c.ticket.ensures, c.problem.ensures, c.deref.ensures.value) at c.in-Some.ensures.some in
    (found_out c.args.done c.in-Some.place c.self.inside.queues.items c.in-Some.s c.index_mut.result.now at c.index_mut.ensures.value).here

the_queue : (c : goal.After-self-1) → FoundOut c.args.done c.in-Some.place c.self.inside.queues.items c.in-Some.s c.index_mut.result.now
the_queue c =
    let at = rw (c.ticket.ensures, c.problem.ensures, c.deref.ensures.value) at c.in-Some.ensures.some in
    found_out c.args.done c.in-Some.place c.self.inside.queues.items c.in-Some.s c.index_mut.result.now at c.index_mut.ensures.value

pub invariant_of-self : goal.invariant_of-self
invariant_of-self c =
    let q : QueueValue = c.index_mut.result.now in
    let follows : Follows q c.finish.new.self = rw c.finish.ensures.finished
    (follows_map (into_phase (is_out_with c.args.done) Finished) q (phase_keeps (is_out_with c.args.done) Finished)) in
    kept_follows c.self.inside.next c.self.inside.queues.items c.in-Some.s q c.finish.new.self c.self.invariant (the_queue c).there follows

the_return : (c : goal.After-self-1) → CameBack c.args.self.now (holding
    (set c.self.inside.queues.items c.in-Some.s c.finish.new.self) c.self.inside.next c.self.inside.closed) c.args.done Finished
the_return c =
    let after : Content = holding (set c.self.inside.queues.items c.in-Some.s c.finish.new.self) c.self.inside.next c.self.inside.closed in
    subst (λ (d : Content). CameBack d after c.args.done Finished) c.self.view_is
    (came_back c.self.inside.next c.self.inside.closed c.self.inside.queues.items c.in-Some.s c.in-Some.place
    c.index_mut.result.now c.finish.new.self c.args.done Finished c.self.invariant
    (the_queue c).there (the_queue c).here c.finish.ensures.finished c.finish.ensures.by_ticket)

pub returns-in-Some-clause-known : goal.returns-in-Some-clause-known
returns-in-Some-clause-known c = (the_return c).known

pub returns-in-Some-clause-finished : goal.returns-in-Some-clause-finished
returns-in-Some-clause-finished c = (the_return c).back

pub returns-in-Some-clause-by_ticket : goal.returns-in-Some-clause-by_ticket
returns-in-Some-clause-by_ticket c = (the_return c).by_ticket
