use Rattle.std.proofs.Common.{◌≡◌, ◌∙◌, sym, ap, is_some, Some, slice_get}
use Rattle.mate_desk.specs.Content.{Content, QueueValue}
use Rattle.mate_desk.specs.Calls.{collected, ready, ready_of, after_collect}
use Rattle.mate_desk.specs.Deliveries.{delivery}
use Rattle.mate_desk.proofs.Changes.{got}
use Rattle.mate_desk.proofs.Following.{Follows, follows_collected, kept_follows}
use Rattle.mate_desk.proofs.Steps.{one_changed, ready_inside}
use Rattle.mate_desk.proofs.desks.Desk.deliver.Goals as goal

the_queue : (c : goal.After-self-1) → slice_get c.self.inside.queues.items c.args.submitter ≡ Some c.index_mut.result.now
the_queue c =
    let inside = ready_inside c.self.inside.queues.items c.args.submitter
    (ap (λ (d : Content). is_some (ready d c.args.submitter)) c.self.view_is ∙ c.requires) in
    got c.self.inside.queues.items c.args.submitter c.index_mut.result.now inside c.index_mut.ensures.value

pub invariant_of-self : goal.invariant_of-self
invariant_of-self c =
    let q : QueueValue = c.index_mut.result.now in
    let follows : Follows q c.deliver.new.self = rw c.deliver.ensures.content (follows_collected q) in
    kept_follows c.self.inside.next c.self.inside.queues.items c.args.submitter q c.deliver.new.self c.self.invariant (the_queue c) follows

pub returns-clause-delivery : goal.returns-clause-delivery
returns-clause-delivery c =
    c.deliver.ensures.delivery ∙ (ap (λ o. delivery (ready_of o)) (sym (the_queue c))
    ∙ ap (λ (d : Content). delivery (ready d c.args.submitter)) c.self.view_is)

pub returns-clause-collected : goal.returns-clause-collected
returns-clause-collected c =
    one_changed c.self.inside.next c.self.inside.closed c.self.inside.queues.items c.args.submitter c.index_mut.result.now
    c.deliver.new.self collected (the_queue c) c.deliver.ensures.content
    ∙ ap (λ (d : Content). after_collect d c.args.submitter) c.self.view_is
