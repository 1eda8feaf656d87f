-- A job goes out, and one that was not ordered comes back at once.
use Rattle.std.proofs.Common.{◌≡◌, ◌+◌, Bool, true, false, not, ◌&&◌, if◌then◌else◌, List, [], ◌∷◌, map, refl, sym, ap, ◌∙◌, arith, count_by}
use Rattle.mate_jobs.specs.Jobs.{Task}
use Rattle.mate_desk.specs.Content.{Content, QueueValue, EntryValue, Phase, Waiting, Out, Finished}
use Rattle.mate_desk.specs.Content.{entries, is_waiting, waits, waits_as, has_task, is_out_with}
use Rattle.mate_desk.specs.Calls.{in_queue, into_phase, after_take, after_return}
use Rattle.desk_room.specs.Events.{one_if}
use Rattle.desk_room.proofs.Places.{cons_is}
use Rattle.desk_room.proofs.Counting.{count_in, count_all, count_entries, count_less}

-- what an entry that waits is
pub record Waits (p : Phase) (w b : Bool) : Type 0 where
  pub phase : p ≡ Waiting
  pub free : w ≡ false
  pub job : b ≡ true

pub waits_tells : (p : Phase) (w b : Bool) → ((is_waiting p && not w) && b) ≡ true → Waits p w b
waits_tells Waiting false true e = record { phase = refl; free = refl; job = refl }
waits_tells Waiting false false e = absurd (cc)
waits_tells Waiting true b e = absurd (cc)
waits_tells Out w b e = absurd (cc)
waits_tells Finished w b e = absurd (cc)

one_waits : (job : Task) (e : EntryValue) → one_if (waits (into_phase (waits_as job) Out e)) + one_if (waits_as job e) ≡ one_if (waits e)
one_waits job e = (elim (waits_as job e) as (λ b. waits_as job e ≡ b → one_if (waits (if b then record {
  ticket = e.ticket;
  asked = e.asked;
  phase = Out;
  withdrawn = e.withdrawn;
} else e)) + one_if b ≡ one_if (waits e)) [
  | true ↦ λ h. let w = waits_tells e.phase e.withdrawn (has_task job e) h in rw (w.phase, w.free) refl
  | false ↦ λ h. omega arith
]) refl

-- One less waits when a job goes out.
pub waiting_less : (job : Task) (c : Content) → count_by (waits_as job) (entries c) ≡ 1
    → count_by waits (entries (after_take c job)) + 1 ≡ count_by waits (entries c)
waiting_less job c h = omega (
  arith,
  count_entries waits (after_take c job),
  count_entries waits c,
  count_entries
      (waits_as job) c,
  h,
  count_less waits waits (waits_as job) (into_phase (waits_as job) Out) (one_waits job) c.queues,
)

one_undone : (job : Task) (e : EntryValue) → is_out_with job e ≡ false → into_phase (is_out_with job) Waiting (into_phase (waits_as job) Out e) ≡ e
one_undone job e free = (elim (waits_as job e) as (λ b. waits_as job e ≡ b → into_phase (is_out_with job) Waiting
    (if b then record { ticket = e.ticket; asked = e.asked; phase = Out; withdrawn = e.withdrawn } else e) ≡ e) [
      | true ↦ λ h. let w = waits_tells e.phase e.withdrawn (has_task job e) h in rw w.job
          (ap (λ (p : Phase). record { ticket = e.ticket; asked = e.asked; phase = p; withdrawn = e.withdrawn }) (sym w.phase))
      | false ↦ λ h. rw free refl
    ]) refl

undone_in : (job : Task) (es : List EntryValue) → count_in (is_out_with job) es ≡ 0
    → map (into_phase (is_out_with job) Waiting) (map (into_phase (waits_as job) Out) es) ≡ es
undone_in job [] h = refl
undone_in job (e ∷ es) h = (elim (is_out_with job e) as (λ b. is_out_with job e ≡ b → one_if b + count_in (is_out_with job) es ≡ 0
    → map (into_phase (is_out_with job) Waiting) (map (into_phase (waits_as job) Out) (e ∷ es)) ≡ e ∷ es) [
      | true ↦ λ g f. absurd (omega (arith, f))
      | false ↦ λ g f. cons_is _ _ _ _ (one_undone job e g) (undone_in job es (omega (arith, f)))
    ]) refl h

undone_all : (job : Task) (qs : List QueueValue) → count_all (is_out_with job) qs ≡ 0
    → map (in_queue (into_phase (is_out_with job) Waiting)) (map (in_queue (into_phase (waits_as job) Out)) qs) ≡ qs
undone_all job [] h = refl
undone_all job (q ∷ qs) h = cons_is _ _ _ _ (ap (λ (es : List EntryValue). record {
  room = q.room;
  delivered = q.delivered;
  pending = es;
}) (undone_in job q.pending (omega (arith, h)))) (undone_all job qs (omega (arith, h)))

-- A job that was taken and handed back at once left no trace.
pub undone : (job : Task) (c : Content) → count_by (is_out_with job) (entries c) ≡ 0 → after_return (after_take c job) job Waiting ≡ c
undone job c h = ap (λ (qs : List QueueValue). record { queues = qs; next = c.next; closed = c.closed })
    (undone_all job c.queues (sym (count_entries (is_out_with job) c) ∙ h))

-- where nothing passes the test nothing is moved
none_in : (p : EntryValue → Bool) (ph : Phase) (es : List EntryValue) → count_in p es ≡ 0 → map (into_phase p ph) es ≡ es
none_in p ph [] h = refl
none_in p ph (e ∷ es) h = (elim (p e) as (λ b. one_if b + count_in p es ≡ 0 → (if b then record {
  ticket = e.ticket;
  asked = e.asked;
  phase = ph;
  withdrawn = e.withdrawn;
} else e) ∷ map (into_phase p ph) es ≡ e ∷ es) [
  | true ↦ λ f. absurd (omega (arith, f))
  | false ↦ λ f. ap (λ l. e ∷ l) (none_in p ph es (omega (arith, f)))
]) h

none_all : (p : EntryValue → Bool) (ph : Phase) (qs : List QueueValue) → count_all p qs ≡ 0 → map (in_queue (into_phase p ph)) qs ≡ qs
none_all p ph [] h = refl
none_all p ph (q ∷ qs) h = cons_is _ _ _ _ (ap (λ (es : List EntryValue). record {
  room = q.room;
  delivered = q.delivered;
  pending = es;
}) (none_in p ph q.pending (omega (arith, h)))) (none_all p ph qs (omega (arith, h)))

-- A job that is not out changes nothing.
pub land_none : (job : Task) (ph : Phase) (c : Content) → count_all (is_out_with job) c.queues ≡ 0 → after_return c job ph ≡ c
land_none job ph c h = ap (λ (qs : List QueueValue). record { queues = qs; next = c.next; closed = c.closed })
    (none_all (is_out_with job) ph c.queues h)
