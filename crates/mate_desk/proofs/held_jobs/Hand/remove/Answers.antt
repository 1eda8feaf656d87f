use Rattle.std.proofs.Common.{arith, ◌≡◌, ◌≢◌, ◌∙◌, ◌+◌, ◌-◌, ◌<◌, sym, ap, subst, List, length, get_or, set, remove, vec_len}
use Rattle.std.proofs.lemmas.List.Edits.{length-remove}
use Rattle.mate_jobs.specs.Jobs.{Task}
use Rattle.mate_desk.specs.inside.HeldJobs.{HandValue, AreNamedOnce}
use Rattle.mate_desk.proofs.JobOrder.{index_there, place_below, job_taken, last_stands, hand_left, hand_moved}
use Rattle.mate_desk.proofs.held_jobs.Hand.remove.Goals as goal

pub remove-place-requires : goal.remove-place-requires
remove-place-requires c = omega (
  arith,
  index_there c.args.self.now c.self.inside.jobs.items c.self.inside.order.items _ c.args.i c.self.view_is c.requires,
  c.self.inside.order.ok.0,
)

pub invariant_of-self : goal.invariant_of-self
invariant_of-self c =
    let inside = index_there c.args.self.now c.self.inside.jobs.items c.self.inside.order.items _ c.args.i c.self.view_is c.requires in
    let same : c.remove-place.result ≡ vec_len c.self.inside.jobs - 1 = c.if-place-last.true ∙ ap (λ n. n - 1) c.len-last.ensures in
    let left = hand_left c.self.inside.jobs.items c.swap_remove.new.self.items c.self.inside.order.items c.remove-place.new.self.items
    c.args.i c.remove-place.result _ c.self.invariant.2 inside c.remove-place.ensures.items c.remove-place.ensures.value
    c.swap_remove.ensures.by_index same in
    let fewer : vec_len c.self.inside.jobs - 1 ≡ vec_len c.swap_remove.new.self = omega (arith, c.swap_remove.ensures.len) in (
      omega (arith, c.self.invariant.0, c.remove-place.ensures.len, c.swap_remove.ensures.len),
      omega (arith, c.self.invariant.1, c.remove-place.ensures.capacity, c.swap_remove.ensures.capacity),
      subst (λ n. AreNamedOnce n c.remove-place.new.self.items) fewer left.0,
    )

pub returns-then-place-last-clause-jobs : goal.returns-then-place-last-clause-jobs
returns-then-place-last-clause-jobs c =
    let inside = index_there c.args.self.now c.self.inside.jobs.items c.self.inside.order.items _ c.args.i c.self.view_is c.requires in
    let same : c.remove-place.result ≡ vec_len c.self.inside.jobs - 1 = c.if-place-last.true ∙ ap (λ n. n - 1) c.len-last.ensures in
    let left = hand_left c.self.inside.jobs.items c.swap_remove.new.self.items c.self.inside.order.items c.remove-place.new.self.items
    c.args.i c.remove-place.result _ c.self.invariant.2 inside c.remove-place.ensures.items c.remove-place.ensures.value
    c.swap_remove.ensures.by_index same in
    left.1 ∙ ap (λ (h : HandValue). remove h.jobs c.args.i) c.self.view_is

pub returns-then-place-last-clause-value : goal.returns-then-place-last-clause-value
returns-then-place-last-clause-value c =
    let inside = index_there c.args.self.now c.self.inside.jobs.items c.self.inside.order.items _ c.args.i c.self.view_is c.requires in
    let low = place_below c.self.inside.order.items c.args.i c.remove-place.result _ c.self.invariant.2 inside c.remove-place.ensures.value in
    job_taken c.self.inside.jobs.items c.self.inside.order.items c.args.i c.remove-place.result c.swap_remove.result inside
    c.remove-place.ensures.value (omega (arith, low, c.self.inside.jobs.ok.0)) c.swap_remove.ensures.value
    ∙ ap (λ (h : HandValue). get_or h.jobs c.args.i c.swap_remove.result) c.self.view_is

pub returns-then-place-last-clause-fewer : goal.returns-then-place-last-clause-fewer
returns-then-place-last-clause-fewer c = ap (λ (jobs : List Task). length jobs + 1) (returns-then-place-last-clause-jobs c)
    ∙ length-remove c.args.self.now.jobs c.args.i c.requires

pub index_of-moved-requires : goal.index_of-moved-requires
index_of-moved-requires c =
    let inside = index_there c.args.self.now c.self.inside.jobs.items c.self.inside.order.items _ c.args.i c.self.view_is c.requires in
    let apart : c.remove-place.result ≢ vec_len c.self.inside.jobs - 1 = λ e. c.if-place-last.false (e ∙ ap (λ n. n - 1) (sym c.len-last.ensures)) in
    rw (c.deref.ensures.value, c.len-last.ensures) (last_stands c.self.inside.order.items c.remove-place.new.self.items c.args.i
    c.remove-place.result _ c.self.invariant.2 inside c.remove-place.ensures.items c.remove-place.ensures.value apart)

pub index_mut-requires : goal.index_mut-requires
index_mut-requires c = omega (arith, c.index_of-moved.ensures.inside, c.deref.ensures.len)

pub swap_remove-requires-2 : goal.swap_remove-requires-2
swap_remove-requires-2 c =
    let inside = index_there c.args.self.now c.self.inside.jobs.items c.self.inside.order.items _ c.args.i c.self.view_is c.requires in
    place_below c.self.inside.order.items c.args.i c.remove-place.result _ c.self.invariant.2 inside c.remove-place.ensures.value

pub invariant_of-self-2 : goal.invariant_of-self-2
invariant_of-self-2 c =
    let inside = index_there c.args.self.now c.self.inside.jobs.items c.self.inside.order.items _ c.args.i c.self.view_is c.requires in
    let apart : c.remove-place.result ≢ vec_len c.self.inside.jobs - 1 = λ e. c.if-place-last.false (e ∙ ap (λ n. n - 1) (sym c.len-last.ensures)) in
    let within : c.index_of-moved.result < length c.remove-place.new.self.items =
    omega (arith, c.index_of-moved.ensures.inside, ap length c.deref.ensures.value) in
    let there : get_or c.remove-place.new.self.items c.index_of-moved.result 0 ≡ vec_len c.self.inside.jobs - 1 =
    ap (λ ns. get_or ns c.index_of-moved.result 0) (sym c.deref.ensures.value)
    ∙ (c.index_of-moved.ensures.named 0 ∙ ap (λ n. n - 1) c.len-last.ensures) in
    let left = hand_moved c.self.inside.jobs.items c.swap_remove-2.new.self.items c.self.inside.order.items c.remove-place.new.self.items
    c.args.i c.remove-place.result _ c.index_of-moved.result c.self.invariant.2 inside c.remove-place.ensures.items
    c.remove-place.ensures.value c.swap_remove-2.ensures.by_index apart within there in
    let fewer : vec_len c.self.inside.jobs - 1 ≡ vec_len c.swap_remove-2.new.self = omega (arith, c.swap_remove-2.ensures.len) in (
      omega (arith, c.self.invariant.0, c.remove-place.ensures.len, c.swap_remove-2.ensures.len),
      omega (arith, c.self.invariant.1, c.remove-place.ensures.capacity, c.swap_remove-2.ensures.capacity),
      subst (λ n. AreNamedOnce n (set c.remove-place.new.self.items c.index_of-moved.result c.remove-place.result)) fewer left.0,
    )

pub returns-clause-value : goal.returns-clause-value
returns-clause-value c =
    let inside = index_there c.args.self.now c.self.inside.jobs.items c.self.inside.order.items _ c.args.i c.self.view_is c.requires in
    let low = place_below c.self.inside.order.items c.args.i c.remove-place.result _ c.self.invariant.2 inside c.remove-place.ensures.value in
    job_taken c.self.inside.jobs.items c.self.inside.order.items c.args.i c.remove-place.result c.swap_remove-2.result inside
    c.remove-place.ensures.value (omega (arith, low, c.self.inside.jobs.ok.0)) c.swap_remove-2.ensures.value
    ∙ ap (λ (h : HandValue). get_or h.jobs c.args.i c.swap_remove-2.result) c.self.view_is

pub returns-clause-jobs : goal.returns-clause-jobs
returns-clause-jobs c =
    let inside = index_there c.args.self.now c.self.inside.jobs.items c.self.inside.order.items _ c.args.i c.self.view_is c.requires in
    let apart : c.remove-place.result ≢ vec_len c.self.inside.jobs - 1 = λ e. c.if-place-last.false (e ∙ ap (λ n. n - 1) (sym c.len-last.ensures)) in
    let within : c.index_of-moved.result < length c.remove-place.new.self.items =
    omega (arith, c.index_of-moved.ensures.inside, ap length c.deref.ensures.value) in
    let there : get_or c.remove-place.new.self.items c.index_of-moved.result 0 ≡ vec_len c.self.inside.jobs - 1 =
    ap (λ ns. get_or ns c.index_of-moved.result 0) (sym c.deref.ensures.value)
    ∙ (c.index_of-moved.ensures.named 0 ∙ ap (λ n. n - 1) c.len-last.ensures) in
    let left = hand_moved c.self.inside.jobs.items c.swap_remove-2.new.self.items c.self.inside.order.items c.remove-place.new.self.items
    c.args.i c.remove-place.result _ c.index_of-moved.result c.self.invariant.2 inside c.remove-place.ensures.items
    c.remove-place.ensures.value c.swap_remove-2.ensures.by_index apart within there in
    left.1 ∙ ap (λ (h : HandValue). remove h.jobs c.args.i) c.self.view_is

pub returns-clause-fewer : goal.returns-clause-fewer
returns-clause-fewer c = ap (λ (jobs : List Task). length jobs + 1) (returns-clause-jobs c)
    ∙ length-remove c.args.self.now.jobs c.args.i c.requires
