use Rattle.std.proofs.Common.{◌≡◌, ◌∙◌, ap, subst, IfNone, IfSome, set, slice_get, Some}
use Rattle.mate_desk.specs.Content.{Content, entries, lowest}
use Rattle.mate_desk.proofs.Changes.{got}
use Rattle.mate_desk.proofs.Following.{kept_follows}
use Rattle.mate_desk.proofs.Steps.{holding, take_follows, take_none, take_lowest, take_unchanged, given_out, GivenOut, for_job}
use Rattle.mate_desk.proofs.desks.Desk.take.Goals as goal

the_queue : (c : goal.After-self-1) → slice_get c.self.inside.queues.items c.in_ok-s.s ≡ Some c.index_mut.result.now
the_queue c = got c.self.inside.queues.items c.in_ok-s.s c.index_mut.result.now
    (rw c.deref.ensures.value at c.in_ok-s.ensures.inside) c.index_mut.ensures.value

pub invariant_of-self : goal.invariant_of-self
invariant_of-self c =
    kept_follows c.self.inside.next c.self.inside.queues.items c.in_ok-s.s c.index_mut.result.now c.take.new.self c.self.invariant (the_queue c)
    (take_follows c.index_mut.result.now c.take.new.self c.take.result c.take.ensures.none c.take.ensures.out)

the_given : (c : goal.After-self-1) → IfSome c.take.result (λ job. GivenOut c.args.self.now
    (holding (set c.self.inside.queues.items c.in_ok-s.s c.take.new.self) c.self.inside.next c.self.inside.closed) job)
the_given c =
    let after : Content = holding (set c.self.inside.queues.items c.in_ok-s.s c.take.new.self) c.self.inside.next c.self.inside.closed in
    subst (λ (d : Content). IfSome c.take.result (λ job. GivenOut d after job)) c.self.view_is
    (given_out c.self.inside.next c.self.inside.closed c.self.inside.queues.items c.in_ok-s.s c.index_mut.result.now
    c.take.new.self c.take.result c.self.invariant (the_queue c)
    c.take.ensures.out c.take.ensures.by_ticket c.take.ensures.waited c.take.ensures.given)

pub returns-clause-out : goal.returns-clause-out
returns-clause-out c = for_job c.take.result (the_given c) (λ job given. given.out)

pub returns-clause-by_ticket : goal.returns-clause-by_ticket
returns-clause-by_ticket c = for_job c.take.result (the_given c) (λ job given. given.by_ticket)

pub returns-clause-one_waited : goal.returns-clause-one_waited
returns-clause-one_waited c = for_job c.take.result (the_given c) (λ job given. given.one_waited)

pub returns-clause-none_was_out : goal.returns-clause-none_was_out
returns-clause-none_was_out c = for_job c.take.result (the_given c) (λ job given. given.none_was_out)

pub returns-clause-given : goal.returns-clause-given
returns-clause-given c = for_job c.take.result (the_given c) (λ job given. given.given)

the_lowest : (c : goal.After-self-1) → lowest c.index_mut.result.now.pending ≡ lowest (entries c.args.self.now)
the_lowest c =
    let low = rw c.deref.ensures.value at c.in_ok-s.ensures.lowest in
    low c.index_mut.result.now (the_queue c) ∙ ap (λ (d : Content). lowest (entries d)) c.self.view_is

pub returns-clause-none : goal.returns-clause-none
returns-clause-none c = take_none _ c.index_mut.result.now c.take.new.self c.take.result (the_lowest c) c.take.ensures.none

pub returns-clause-lowest : goal.returns-clause-lowest
returns-clause-lowest c = take_lowest _ c.index_mut.result.now c.take.result (the_lowest c) c.take.ensures.lowest

pub returns-clause-unchanged : goal.returns-clause-unchanged
returns-clause-unchanged c =
    let after : Content = holding (set c.self.inside.queues.items c.in_ok-s.s c.take.new.self) c.self.inside.next c.self.inside.closed in
    subst (λ (d : Content). IfNone c.take.result (after ≡ d)) c.self.view_is
    (take_unchanged c.self.inside.next c.self.inside.closed c.self.inside.queues.items c.in_ok-s.s c.index_mut.result.now
    c.take.new.self c.take.result (the_queue c) c.take.ensures.none)
