use Rattle.std.proofs.Common.{◌≡◌, subst, arith, None, Some, IfOk, IfErr, slice_get, set}
use Rattle.mate_desk.specs.Content.{Content}
use Rattle.mate_desk.specs.Calls.{withdraw_refusal, after_withdraw}
use Rattle.mate_desk.proofs.Changes.{got}
use Rattle.mate_desk.proofs.Following.{kept_follows}
use Rattle.mate_desk.proofs.Steps.{holding, withdraw_follows, withdraw_accepted, withdraw_refused, withdraw_changed}
use Rattle.mate_desk.proofs.desks.Desk.withdraw.Goals as goal

the_queue : (c : goal.After-self-1) → slice_get c.self.inside.queues.items c.args.submitter ≡ Some c.index_mut.result.now
the_queue c = got c.self.inside.queues.items c.args.submitter c.index_mut.result.now (omega arith) c.index_mut.ensures.value

pub invariant_of-self : goal.invariant_of-self
invariant_of-self c =
    kept_follows c.self.inside.next c.self.inside.queues.items c.args.submitter c.index_mut.result.now
    c.withdraw.new.self c.self.invariant (the_queue c)
    (withdraw_follows c.index_mut.result.now c.withdraw.new.self c.args.n c.withdraw.result c.withdraw.ensures.withdrawn c.withdraw.ensures.unchanged)

pub returns-clause-accepted : goal.returns-clause-accepted
returns-clause-accepted c =
    subst (λ (d : Content). IfOk c.withdraw.result (λ _. withdraw_refusal d c.args.submitter c.args.n ≡ None)) c.self.view_is
    (withdraw_accepted c.self.inside.next c.self.inside.closed c.self.inside.queues.items c.args.submitter c.args.n
    c.index_mut.result.now c.withdraw.result (the_queue c) c.withdraw.ensures.accepted)

pub returns-clause-withdrawn : goal.returns-clause-withdrawn
returns-clause-withdrawn c =
    let after : Content = holding (set c.self.inside.queues.items c.args.submitter c.withdraw.new.self) c.self.inside.next c.self.inside.closed in
    subst (λ (d : Content). IfOk c.withdraw.result (λ _. after ≡ after_withdraw d c.args.submitter c.args.n)) c.self.view_is
    (withdraw_changed c.self.inside.next c.self.inside.closed c.self.inside.queues.items c.args.submitter c.args.n
    c.index_mut.result.now c.withdraw.new.self c.withdraw.result (the_queue c) c.withdraw.ensures.withdrawn)

pub returns-clause-refusal : goal.returns-clause-refusal
returns-clause-refusal c =
    subst (λ (d : Content). IfErr c.withdraw.result (λ e. withdraw_refusal d c.args.submitter c.args.n ≡ Some e)) c.self.view_is
    (withdraw_refused c.self.inside.next c.self.inside.closed c.self.inside.queues.items c.args.submitter c.args.n
    c.index_mut.result.now c.withdraw.result (the_queue c) c.withdraw.ensures.refusal)
