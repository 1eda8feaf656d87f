use Rattle.std.proofs.Common.{◌≡◌, ◌∙◌, ◌+◌, ◌<◌, ◌==◌, ◌||◌, length, ◌∷◌, [], ◌++◌, ap, refl, arith, subst, sym, length-append}
use Rattle.mate_desk.specs.Content.{EntryValue, QueueValue}
use Rattle.mate_desk.specs.Laws.{AreBelow}
use Rattle.mate_desk.specs.inside.PlaceBits.{has_place}
use Rattle.mate_desk.proofs.Changes.{rises_push}
use Rattle.mate_desk.proofs.Waiting.{marks_push}
use Rattle.mate_desk.proofs.OwnJobs.{solved_push}
use Rattle.mate_desk.proofs.queues.Queue.push.Goals as goal

pub invariant_of-self : goal.invariant_of-self
invariant_of-self c =
    let q : QueueValue = record { room = c.self.inside.room; delivered = c.self.inside.delivered; pending = c.self.inside.entries.items } in
    let e : EntryValue = c.new.result in
    let k = c.self.invariant in
    let below : AreBelow e.ticket q.pending =
    rw c.new.ensures (subst (λ (m : QueueValue). AreBelow c.args.ticket m.pending) (sym c.self.view_is) c.requires.rises) in
    let room : length q.pending < q.room = subst (λ (m : QueueValue). length m.pending < m.room) (sym c.self.view_is) c.requires.room in
    let few : q.delivered + length q.pending + 1 < 18446744073709551616 = subst (λ (m : QueueValue).
    m.delivered + length m.pending + 1 < 18446744073709551616) (sym c.self.view_is) c.requires.few in
    let long : length (q.pending ++ e ∷ []) ≡ length q.pending + 1 = length-append q.pending (e ∷ []) in
    let at : c.len.result ≡ length q.pending = c.len.ensures ∙ c.self.inside.entries.ok.0 in
    let marks = marks_push c.self.inside.waiting c.with_place-self-inside.result q.pending e k.5 (rw c.new.ensures refl)
    (λ p h. c.with_place-self-inside.ensures p h ∙ ap (λ n. p == n || has_place c.self.inside.waiting p) at) in
    rw c.push_back_reserved.ensures.items (
      omega (arith, k.0, c.push_back_reserved.ensures.capacity),
      k.1,
      omega (arith, long, room),
      omega (arith, long, few),
      rises_push 0 q.pending e k.4 below (omega arith),
      marks,
      k.6,
      solved_push c.self.inside.solved.items q.pending e k.7 (rw c.new.ensures refl),
    )
