-- How many of the pending records are finished, as the calls change them.
use Rattle.std.proofs.Common.{◌≡◌, ℕ, zero, suc, ◌+◌, ◌-◌, ◌<◌, ◌≤◌, List, [], ◌∷◌, map, slice_get, Bool, true}
use Rattle.std.proofs.Common.{false, refl, arith, Option, None, Some, count_by, nat_lt, if◌then◌else◌}
use Rattle.chess_notation.specs.Records.{RecordValue}
use Rattle.mate_desk.specs.Content.{Content, EntryValue, QueueValue, Phase, Waiting, Finished, is_finished, is_ready, has_ticket}
use Rattle.mate_desk.specs.Calls.{change_at, everywhere, in_queue, into_phase, with_entry, withdrawn, withdrawn_at, collected}
use Rattle.mate_desk.specs.Calls.{ready, ready_first, ready_of, after_submit, after_withdraw, after_collect}
use Rattle.mate_desk.specs.Deliveries.{delivery}
use Rattle.mate_desk.specs.Laws.{AreDistinct}
use Rattle.mate_desk.specs.inside.Stepping.{answers, found_reply, is_done, count_done}
use Rattle.mate_jobs.specs.declared.deliveries.Delivery.{Delivery}
use Rattle.mate_jobs.specs.declared.deliveries.Delivery.TheVariants.{Answer, Notice}
use Rattle.mate_desk.proofs.Distinct.{one_if, count_cons, count_append, count_joined}
use Rattle.mate_desk.proofs.Joined.{joined}

-- No more are finished where no queue has more.
abbrev AddsNone : (QueueValue → QueueValue) → Type 0
AddsNone g = (q : QueueValue) → count_by is_done (g q).pending ≤ count_by is_done q.pending

map_adds : (g : QueueValue → QueueValue) → AddsNone g → (qs : List QueueValue) → count_by is_done (joined (map g qs)) ≤ count_by is_done (joined qs)
map_adds g none [] = omega arith
map_adds g none (q ∷ qs) = omega (arith, none q, map_adds g none qs, count_joined is_done (g q) (map g qs), count_joined is_done q qs)

change_adds : (s : ℕ) (g : QueueValue → QueueValue) → AddsNone g → (qs : List QueueValue)
    → count_by is_done (joined (change_at s g qs)) ≤ count_by is_done (joined qs)
change_adds s g none [] = omega arith
change_adds zero g none (q ∷ qs) = omega (arith, none q, count_joined is_done (g q) qs, count_joined is_done q qs)
change_adds (suc s) g none (q ∷ qs) = omega (arith, change_adds s g none qs, count_joined is_done q (change_at s g qs), count_joined is_done q qs)

-- a phase that is not the last
into_other : (test : EntryValue → Bool) (phase : Phase) → is_finished phase ≡ false → (e : EntryValue)
    → one_if (is_done (into_phase test phase e)) ≤ one_if (is_done e)
into_other test phase other e = elim (test e) as (λ b. one_if (is_done (if b then record {
  ticket = e.ticket;
  asked = e.asked;
  phase = phase;
  withdrawn = e.withdrawn;
} else e)) ≤ one_if (is_done e)) [
  | true ↦ rw other (omega arith)
  | false ↦ omega arith
]

pending_other : (test : EntryValue → Bool) (phase : Phase) → is_finished phase ≡ false → (es : List EntryValue)
    → count_by is_done (map (into_phase test phase) es) ≤ count_by is_done es
pending_other test phase other [] = omega arith
pending_other test phase other (e ∷ es) =
    omega (
      arith,
      into_other test phase other e,
      pending_other test phase other es,
      count_cons is_done (into_phase test phase e) (map (into_phase test phase) es),
      count_cons is_done e es,
    )

pub other_phase : (test : EntryValue → Bool) (phase : Phase) (c : Content) → is_finished phase ≡ false
    → count_done (everywhere (into_phase test phase) c) ≤ count_done c
other_phase test phase c other = map_adds (in_queue (into_phase test phase)) (λ q. pending_other test phase other q.pending) c.queues

-- the last phase, for one ticket
into_last : (t : ℕ) (e : EntryValue) → one_if (is_done (into_phase (has_ticket t) Finished e)) ≤ one_if (is_done e) + one_if (has_ticket t e)
into_last t e = elim (has_ticket t e) as (λ b. one_if (is_done (if b then record {
  ticket = e.ticket;
  asked = e.asked;
  phase = Finished;
  withdrawn = e.withdrawn;
} else e)) ≤ one_if (is_done e) + one_if b) [
  | true ↦ omega arith
  | false ↦ omega arith
]

pending_last : (t : ℕ) (es : List EntryValue)
    → count_by is_done (map (into_phase (has_ticket t) Finished) es) ≤ count_by is_done es + count_by (has_ticket t) es
pending_last t [] = omega arith
pending_last t (e ∷ es) =
    omega (
      arith,
      into_last t e,
      pending_last t es,
      count_cons is_done (into_phase (has_ticket t) Finished e)
          (map (into_phase (has_ticket t) Finished) es),
      count_cons is_done e es,
      count_cons (has_ticket t) e es,
    )

queues_last : (t : ℕ) (qs : List QueueValue) → count_by is_done (joined (map (in_queue (into_phase (has_ticket t) Finished)) qs))
    ≤ count_by is_done (joined qs) + count_by (has_ticket t) (joined qs)
queues_last t [] = omega arith
queues_last t (q ∷ qs) =
    omega (
      arith,
      pending_last t q.pending,
      queues_last t qs,
      count_joined is_done (in_queue (into_phase (has_ticket t) Finished)
          q) (map (in_queue (into_phase (has_ticket t) Finished)) qs),
      count_joined is_done q qs,
      count_joined (has_ticket t) q qs,
    )

-- One more is finished at most, since no other has its ticket.
pub last_phase : (t : ℕ) (c : Content) → AreDistinct c.queues → count_done (everywhere (into_phase (has_ticket t) Finished) c) ≤ count_done c + 1
last_phase t c distinct = omega (arith, queues_last t c.queues, distinct t)

-- a record more, which waits
pub submitted : (c : Content) (s : ℕ) (asked : RecordValue) → count_done (after_submit c s asked) ≤ count_done c
submitted c s asked =
    let e : EntryValue = record { ticket = c.next; asked = asked; phase = Waiting; withdrawn = false } in
    change_adds s (with_entry c.next asked) (λ q. omega (arith, count_append is_done q.pending (e ∷ []), count_cons is_done e [])) c.queues

-- a record that is withdrawn
pending_withdrawn : (n : ℕ) (es : List EntryValue) → count_by is_done (change_at n withdrawn es) ≤ count_by is_done es
pending_withdrawn n [] = omega arith
pending_withdrawn zero (e ∷ es) = omega (arith, count_cons is_done (withdrawn e) es, count_cons is_done e es)
pending_withdrawn (suc n) (e ∷ es) = omega (arith, pending_withdrawn n es, count_cons is_done e (change_at n withdrawn es), count_cons is_done e es)

withdrawn_adds : (n : ℕ) → AddsNone (withdrawn_at n)
withdrawn_adds n q = elim (nat_lt n q.delivered) as (λ b. count_by is_done (if b then q else record {
  room = q.room;
  delivered =
      q.delivered;
  pending = change_at (n - q.delivered) withdrawn q.pending;
}).pending ≤ count_by is_done q.pending) [
  | true ↦ omega arith
  | false ↦ pending_withdrawn (n - q.delivered) q.pending
]

pub withdrawn_done : (c : Content) (s n : ℕ) → count_done (after_withdraw c s n) ≤ count_done c
withdrawn_done c s n = change_adds s (withdrawn_at n) (withdrawn_adds n) c.queues

-- A record whose answer is collected was finished.
first_collected : (room done : ℕ) (e : EntryValue) (es : List EntryValue) (w r : Bool) → e.withdrawn ≡ w → is_ready e ≡ r
    → count_by is_done (collected (let q : QueueValue = record { room = room; delivered = done; pending = e ∷ es } in q)).pending
    + answers (found_reply (delivery (ready_first (e ∷ es)))) ≤ count_by is_done (e ∷ es)
first_collected room done e es w false mark ready = rw ready (omega arith)
first_collected room done e es true true mark ready = rw (ready, mark) (omega (arith, count_cons is_done e es))
first_collected room done e es false true mark ready =
    let finished : is_done e ≡ true = rw mark at ready in
    let one : one_if (is_done e) ≡ 1 = rw finished refl in
    rw (ready, mark) (omega (arith, one, count_cons is_done e es))

queue_collected : (room done : ℕ) (es : List EntryValue)
    → count_by is_done (collected (let q : QueueValue = record { room = room; delivered = done; pending = es } in q)).pending
    + answers (found_reply (delivery (ready_first es))) ≤ count_by is_done es
queue_collected room done [] = omega arith
queue_collected room done (e ∷ es) = first_collected room done e es e.withdrawn (is_ready e) refl refl

queues_collected : (s : ℕ) (qs : List QueueValue) → count_by is_done (joined (change_at s collected qs))
    + answers (found_reply (delivery (ready_of (slice_get qs s)))) ≤ count_by is_done (joined qs)
queues_collected s [] = omega arith
queues_collected zero (q ∷ qs) = omega (
  arith,
  queue_collected q.room q.delivered q.pending,
  count_joined is_done (collected q) qs,
  count_joined is_done q qs,
)
queues_collected (suc s) (q ∷ qs) = omega (arith, queues_collected s qs, count_joined is_done q (change_at s collected qs), count_joined is_done q qs)

pub collected_done : (c : Content) (s : ℕ) → count_done (after_collect c s) + answers (found_reply (delivery (ready c s))) ≤ count_done c
collected_done c s = queues_collected s c.queues

-- Where an answer is collected there is a place for it.
one_found : (found : Option Delivery) → answers (found_reply found) ≤ 1
one_found None = omega arith
one_found (Some (Answer asked)) = omega arith
one_found (Some (Notice t asked)) = omega arith

fits : (a n places : ℕ) → a ≤ 1 → a ≤ n → (0 < n → 0 < places) → a ≤ places
fits zero n places few le there = omega arith
fits (suc a) n places few le there = omega (arith, few, there (omega (arith, le)))

pub answer_fits : (c : Content) (s places : ℕ) → (0 < count_done c → 0 < places) → answers (found_reply (delivery (ready c s))) ≤ places
answer_fits c s places there = fits (answers (found_reply (delivery (ready c s)))) (count_done c) places
    (one_found (delivery (ready c s))) (omega (arith, collected_done c s)) there
