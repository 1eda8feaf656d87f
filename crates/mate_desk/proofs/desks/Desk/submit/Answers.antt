use Rattle.std.proofs.Common.{◌≡◌, ◌∙◌, ℕ, ◌+◌, ◌<◌, sym, ap, subst, arith, false, nat_le, List, length, get_or, None, Some, slice_get}
use Rattle.mate_desk.specs.Content.{Content, QueueValue}
use Rattle.mate_desk.specs.Calls.{submit_refusal, after_submit, with_entry}
use Rattle.mate_desk.specs.Laws.{IsOrdered}
use Rattle.mate_desk.proofs.Changes.{got, got_one}
use Rattle.mate_desk.proofs.Following.{kept_submit}
use Rattle.mate_desk.proofs.Tests.{less_tells}
use Rattle.mate_desk.proofs.Steps.{one_changed, none_refuses, refused_past, refused_closed, refused_full, refused_last}
use Rattle.mate_desk.specs.declared.refusals.SubmitRefusal.TheVariants as refused
use Rattle.mate_desk.proofs.desks.Desk.submit.Goals as goal

the_order : (c : goal.After-index_mut) → IsOrdered c.self.inside.next c.index_mut.result.now
the_order c = c.self.invariant.ordered c.args.submitter c.index_mut.result.now
    (got c.self.inside.queues.items c.args.submitter c.index_mut.result.now (omega arith) c.index_mut.ensures.value)

pub push-requires-clause-rises : goal.push-requires-clause-rises
push-requires-clause-rises c = (the_order c).given

pub push-requires-clause-few : goal.push-requires-clause-few
push-requires-clause-few c = omega (arith, (the_order c).counted, c.if-self-2.false, c.self.ranges)

-- The queue that was seen with room is the one that takes the record.
room_left : (qs : List QueueValue) (s : ℕ) (seen q : QueueValue) → s < length qs → seen ≡ get_or qs s seen → slice_get qs s ≡ Some q
    → nat_le seen.room (length seen.pending) ≡ false → nat_le q.room (length q.pending) ≡ false
room_left qs s seen q inside read there room =
    let same : seen ≡ q = got_one seen q (sym (got qs s seen inside read) ∙ there) in
    ap (λ (q : QueueValue). nat_le q.room (length q.pending)) (sym same) ∙ room

pub push-requires-clause-room : goal.push-requires-clause-room
push-requires-clause-room c =
    let q : QueueValue = c.index_mut.result.now in
    let there = got c.self.inside.queues.items c.args.submitter q (omega arith) c.index_mut.ensures.value in
    less_tells q.room (length q.pending) (room_left c.self.inside.queues.items c.args.submitter c.index.result.now q
    (omega arith) c.index.ensures there (sym c.is_full.ensures ∙ c.if-is_full.false))

the_queue : (c : goal.After-self-2-1) → slice_get c.self.inside.queues.items c.args.submitter ≡ Some c.index_mut.result.now
the_queue c = got c.self.inside.queues.items c.args.submitter c.index_mut.result.now (omega arith) c.index_mut.ensures.value

has_room : (c : goal.After-self-2-1) → nat_le c.index_mut.result.now.room (length c.index_mut.result.now.pending) ≡ false
has_room c = room_left c.self.inside.queues.items c.args.submitter c.index.result.now c.index_mut.result.now
    (omega arith) c.index.ensures (the_queue c) (sym c.is_full.ensures ∙ c.if-is_full.false)

pub invariant_of-self : goal.invariant_of-self
invariant_of-self c =
    let q : QueueValue = c.index_mut.result.now in
    let room : length q.pending < q.room = less_tells q.room (length q.pending) (has_room c) in
    rw c.push.ensures (kept_submit c.self.inside.next c.self.inside.queues.items c.args.submitter q c.args.asked c.self.invariant (the_queue c) room)

pub returns-clause-accepted : goal.returns-clause-accepted
returns-clause-accepted c =
    let open_desk : c.self.inside.closed ≡ false = c.if-self.false in
    subst (λ (d : Content). submit_refusal d c.args.submitter ≡ None) c.self.view_is
    (rw open_desk (none_refuses c.self.inside.next c.self.inside.queues.items c.args.submitter c.index_mut.result.now
    (the_queue c) (has_room c) c.if-self-2.false))

pub returns-clause-waits : goal.returns-clause-waits
returns-clause-waits c =
    one_changed (c.self.inside.next + 1) c.self.inside.closed c.self.inside.queues.items c.args.submitter c.index_mut.result.now
    c.push.new.self (with_entry c.self.inside.next c.args.asked) (the_queue c) c.push.ensures
    ∙ ap (λ (d : Content). after_submit d c.args.submitter c.args.asked) c.self.view_is

pub returns-then-len-submitter-clause-refusal : goal.returns-then-len-submitter-clause-refusal
returns-then-len-submitter-clause-refusal c =
    subst (λ (d : Content). submit_refusal d c.args.submitter ≡ Some refused.NoSuchSubmitter) c.self.view_is
    (refused_past c.self.inside.next c.self.inside.closed c.self.inside.queues.items c.args.submitter (omega arith))

pub returns-then-self-clause-refusal : goal.returns-then-self-clause-refusal
returns-then-self-clause-refusal c =
    subst (λ (d : Content). submit_refusal d c.args.submitter ≡ Some refused.Closed) c.self.view_is
    (rw c.if-self.true (refused_closed c.self.inside.next c.self.inside.queues.items c.args.submitter (omega arith)))

pub returns-then-is_full-clause-refusal : goal.returns-then-is_full-clause-refusal
returns-then-is_full-clause-refusal c =
    let there = got c.self.inside.queues.items c.args.submitter c.index.result.now (omega arith) c.index.ensures in
    subst (λ (d : Content). submit_refusal d c.args.submitter ≡ Some refused.Full) c.self.view_is
    (rw c.if-self.false (refused_full c.self.inside.next c.self.inside.queues.items c.args.submitter c.index.result.now there
    (sym c.is_full.ensures ∙ c.if-is_full.true)))

pub returns-then-self-2-clause-refusal : goal.returns-then-self-2-clause-refusal
returns-then-self-2-clause-refusal c =
    let there = got c.self.inside.queues.items c.args.submitter c.index.result.now (omega arith) c.index.ensures in
    subst (λ (d : Content). submit_refusal d c.args.submitter ≡ Some refused.Exhausted) c.self.view_is
    (rw c.if-self.false (refused_last c.self.inside.next c.self.inside.queues.items c.args.submitter c.index.result.now there
    (sym c.is_full.ensures ∙ c.if-is_full.false) c.if-self-2.true))
