-- The entries out, through a turn.
use Rattle.std.proofs.Common.{◌≡◌, true≢false, ℕ, zero, suc, ◌+◌, ◌-◌, ◌==◌, Bool, true, false, not, ◌&&◌, ◌||◌, nat_lt, if◌then◌else◌}
use Rattle.std.proofs.Common.{List, [], ◌∷◌, ◌++◌, length, map, drop, Some, refl, sym, ap, ◌∙◌, subst, arith, append_assoc}
use Rattle.std.specs.List.{list_any}
use Rattle.mate_jobs.specs.Jobs.{Task}
use Rattle.mate_desk.specs.Content.{Content, QueueValue, EntryValue, Phase, Waiting, Out, Finished, is_out}
use Rattle.mate_desk.specs.Content.{is_finished, has_ticket, has_task, waits_as, is_out_with}
use Rattle.mate_desk.specs.Calls.{change_at, in_queue, into_phase, with_entry, withdrawn, withdrawn_at, ready_first}
use Rattle.mate_desk.specs.Deliveries.{delivery}
use Rattle.mate_jobs.specs.declared.deliveries.Delivery.{Delivery}
use Rattle.desk_room.specs.Events.{RoomLists, Event, Takes, Gives, Orders, Hears, May, after, one_more, one_if}
use Rattle.desk_room.specs.Events.{hearing, job_of, Leads, AllOf, is_heard, is_taken, is_ordered, is_given}
use Rattle.desk_room.specs.Turns.{Turned, gained, pending_at, is_out_under, outs, is_named, still_out, times_ordered}
use Rattle.desk_room.specs.declared.turns.Turn.{Turn}
use Rattle.room_ends.specs.declared.letters.Letter.TheVariants.{Record, Withdrawal, Farewell}
use Rattle.room_ends.specs.declared.letters.Back.{Back}
use Rattle.room_ends.specs.declared.letters.Back.TheVariants.{Solved, Returned}
use Rattle.room_ends.specs.declared.deque_rule.Order.{Order}
use Rattle.room_ends.specs.declared.deque_rule.Order.TheVariants.{Solve, Stop}
use Rattle.desk_room.proofs.Places.{nil_append, drop_all}
use Rattle.desk_room.proofs.Tests.{and_both, same_is}
use Rattle.desk_room.proofs.Counting.{count_in, count_all, count_entries, count_same, count_more, count_change, count_snoc}
use Rattle.desk_room.proofs.Queues.{ready_at, gone, first_is, collected_is}
use Rattle.desk_room.proofs.Leaving.{run_same, run_adds, heard_orders, taken_orders, taken_heard, ordered_heard, given_heard, given_orders}
use Rattle.desk_room.proofs.GoingOut.{waits_tells}
use Rattle.desk_room.proofs.Growth.{Grown, grown_same, grown_change, none_gained, any_more}

-- as many as are out under a ticket, and named by none of these
abbrev is_still_out : ℕ → List Back → EntryValue → Bool
is_still_out k xs e = is_out_under k e && not (is_named xs e)

abbrev stills : ℕ → List Back → Content → ℕ
stills k xs c = count_all (is_still_out k xs) c.queues

abbrev all_out : ℕ → RoomLists → ℕ
all_out k s = count_all (is_out_under k) s.content.queues

and_false : (a : Bool) → (a && false) ≡ false
and_false true = refl
and_false false = refl

and_true : (a : Bool) → (a && true) ≡ a
and_true true = refl
and_true false = refl

any_same : {A : Type 0} (p q : A → Bool) → ((x : A) → p x ≡ q x) → (xs : List A) → list_any p xs ≡ list_any q xs
any_same p q each [] = refl
any_same p q each (x ∷ xs) = ap (λ b. b || list_any p xs) (each x) ∙ ap (λ b. q x || b) (any_same p q each xs)

count_like : (p q : EntryValue → Bool) → ((e : EntryValue) → p e ≡ q e) → (qs : List QueueValue) → count_all p qs ≡ count_all q qs
count_like p q each [] = refl
count_like p q each (x ∷ qs) = omega (arith, inside x.pending, count_like p q each qs)
  where
    inside : (es : List EntryValue) → count_in p es ≡ count_in q es
    inside [] = refl
    inside (e ∷ es) = omega (arith, ap one_if (each e), inside es)

-- One thing heard leaves of those out what it does not name.
one_heard : (k : ℕ) (job : Task) (ph : Phase) (xs ys : List Back) → is_out ph ≡ false
    → ((e : EntryValue) → is_named xs e ≡ (has_task job e || is_named ys e)) → (e : EntryValue)
    → is_still_out k ys (into_phase (is_out_with job) ph e) ≡ is_still_out k xs e
one_heard k job ph xs ys f all e = by_tests (is_out e.phase) refl (has_task job e) refl
  where
    now : is_named xs e ≡ (has_task job e || is_named ys e)
    now = all e

    stays : is_out_with job e ≡ false → into_phase (is_out_with job) ph e ≡ e
    stays h = rw h refl

    by_tests : (o : Bool) → is_out e.phase ≡ o → (t : Bool) → has_task job e ≡ t
        → is_still_out k ys (into_phase (is_out_with job) ph e) ≡ is_still_out k xs e
    by_tests true p true q = rw (now, p, q, f) (sym (and_false (has_ticket k e)))
    by_tests true p false q = ap (is_still_out k ys) (stays (rw (p, q) refl)) ∙ rw (now, p, q) refl
    by_tests false p t q = ap (is_still_out k ys) (stays (rw p refl)) ∙ rw p refl

abbrev phase_after : Back → Phase
phase_after (Solved d) = Finished
phase_after (Returned j) = Waiting

stills_heard : (k : ℕ) (x : Back) (xs ys : List Back) (c : Content)
    → ((e : EntryValue) → is_named xs e ≡ (has_task (job_of x) e || is_named ys e)) → stills k ys (hearing x c) ≡ stills k xs c
stills_heard k (Solved d) xs ys c all = count_same (is_still_out k ys) (is_still_out k xs) (into_phase (is_out_with d) Finished)
    (one_heard k d Finished xs ys refl all) c.queues
stills_heard k (Returned j) xs ys c all = count_same (is_still_out k ys) (is_still_out k xs) (into_phase (is_out_with j) Waiting)
    (one_heard k j Waiting xs ys refl all) c.queues

record Heard (k : ℕ) (s t : RoomLists) : Type 0 where
  pub grown : Grown s.heard t.heard
  pub outs : all_out k t ≡ stills k (gained s.heard t.heard) s.content

run_heard : (k : ℕ) (es : List Event) (s t : RoomLists) → AllOf is_heard es → Leads es s t → Heard k s t
run_heard k [] s t a r =
    subst (λ (u : RoomLists). Heard k s u) (sym r) (record {
      grown = grown_same s.heard;
      outs = rw (none_gained s.heard)
          (count_like (is_out_under k) (is_still_out k []) (λ e. sym (and_true (is_out_under k e))) s.content.queues);
    })
run_heard k (Hears b x ∷ es) s t a r =
    let h = run_heard k es (after (Hears b x) s) t a.1 r.1 in
    record {
      grown = grown_change x b s.heard t.heard h.grown;
      outs = h.outs ∙ stills_heard k x (gained s.heard t.heard) (gained (change_at b (one_more x) s.heard) t.heard) s.content
          (λ e. any_more (λ y. has_task (job_of y) e) x b s.heard t.heard r.0 h.grown);
    }
run_heard k (Takes n x ∷ es) s t a r = absurd (true≢false (sym a.0))
run_heard k (Orders j ∷ es) s t a r = absurd (true≢false (sym a.0))
run_heard k (Gives n d ∷ es) s t a r = absurd (true≢false (sym a.0))

-- Letters change nothing of what is out.
count_marked : (k n : ℕ) (es : List EntryValue) → count_in (is_out_under k) (change_at n withdrawn es) ≡ count_in (is_out_under k) es
count_marked k zero [] = refl
count_marked k (suc n) [] = refl
count_marked k zero (e ∷ es) = refl
count_marked k (suc n) (e ∷ es) = omega (arith, count_marked k n es)

count_nth : (k m : ℕ) (q : QueueValue) → count_in (is_out_under k) (withdrawn_at m q).pending ≡ count_in (is_out_under k) q.pending
count_nth k m q = (elim (nat_lt m q.delivered) as (λ b. count_in (is_out_under k) (if b then q
    else record { room = q.room; delivered = q.delivered; pending = change_at (m - q.delivered) withdrawn q.pending }).pending
    ≡ count_in (is_out_under k) q.pending) [ true ↦ refl | false ↦ count_marked k (m - q.delivered) q.pending ])

taken_outs : (k : ℕ) (e : Event) (s : RoomLists) → is_taken e ≡ true → May e s → all_out k (after e s) ≡ all_out k s
taken_outs k (Hears b x) s h m = absurd (true≢false (sym h))
taken_outs k (Takes n (Record r)) s h m =
    count_change (is_out_under k) (with_entry s.content.next r) n s.content.queues (λ q. count_snoc (is_out_under k) q.pending
    (record { ticket = s.content.next; asked = r; phase = Waiting; withdrawn = false }) refl)
taken_outs k (Takes n (Withdrawal j)) s h m = count_change (is_out_under k) (withdrawn_at j) n s.content.queues (count_nth k j)
taken_outs k (Takes n Farewell) s h m = refl
taken_outs k (Orders job) s h m = absurd (true≢false (sym h))
taken_outs k (Gives n d) s h m = absurd (true≢false (sym h))

-- What is ready is not out.
not_out : (p : Phase) (w : Bool) → (if w then not (is_out p) else is_finished p) ≡ true → is_out p ≡ false
not_out Waiting w e = refl
not_out Out true e = absurd (cc)
not_out Out false e = absurd (cc)
not_out Finished w e = refl

gone_outs : (k : ℕ) (d : Delivery) (q : QueueValue) → delivery (ready_first q.pending) ≡ Some d
    → count_in (is_out_under k) (gone q).pending ≡ count_in (is_out_under k) q.pending
gone_outs k d q h =
    let f = first_is d q.pending h in
    rw (f.there, not_out f.entry.phase f.entry.withdrawn f.ready) (omega arith)

all_gone : (k n : ℕ) (d : Delivery) (qs : List QueueValue) → delivery (ready_first (pending_at n qs)) ≡ Some d
    → count_all (is_out_under k) (change_at n gone qs) ≡ count_all (is_out_under k) qs
all_gone k zero d [] h = refl
all_gone k (suc n) d [] h = refl
all_gone k zero d (q ∷ qs) h = omega (arith, gone_outs k d q h)
all_gone k (suc n) d (q ∷ qs) h = omega (arith, all_gone k n d qs h)

given_outs : (k : ℕ) (e : Event) (s : RoomLists) → is_given e ≡ true → May e s → all_out k (after e s) ≡ all_out k s
given_outs k (Hears b x) s h m = absurd (true≢false (sym h))
given_outs k (Takes n x) s h m = absurd (true≢false (sym h))
given_outs k (Orders job) s h m = absurd (true≢false (sym h))
given_outs k (Gives n d) s h m =
    let r : delivery (ready_first (pending_at n s.content.queues)) ≡ Some d = ap delivery (sym (ready_at n s.content.queues)) ∙ m.1 in
    ap (count_all (is_out_under k)) (collected_is n d s.content.queues r) ∙ all_gone k n d s.content.queues r

-- A job that goes out is out once more under its ticket.
abbrev waits_under : ℕ → Task → EntryValue → Bool
waits_under k job e = waits_as job e && (job.ticket == k)

one_sent : (k : ℕ) (job : Task) (e : EntryValue)
    → one_if (is_out_under k (into_phase (waits_as job) Out e)) ≡ one_if (is_out_under k e) + one_if (waits_under k job e)
one_sent k job e = (elim (waits_as job e) as (λ b. waits_as job e ≡ b → one_if
    (is_out_under k (if b then record { ticket = e.ticket; asked = e.asked; phase = Out; withdrawn = e.withdrawn } else e))
    ≡ one_if (is_out_under k e) + one_if (b && (job.ticket == k))) [
      | true ↦ λ h.
          let w = waits_tells e.phase e.withdrawn (has_task job e) h in
          let t : e.ticket ≡ job.ticket = same_is e.ticket job.ticket (and_both (e.ticket == job.ticket) _ w.job).0 in
          rw (w.phase, t) (omega arith)
      | false ↦ λ h. omega arith
    ]) refl

waits_count : (k : ℕ) (job : Task) (b : Bool) → (job.ticket == k) ≡ b → (qs : List QueueValue)
    → count_all (waits_under k job) qs ≡ (if b then count_all (waits_as job) qs else 0)
waits_count k job true h qs = count_like (waits_under k job) (waits_as job) (λ e. rw h (and_true (waits_as job e))) qs
waits_count k job false h qs = count_like (waits_under k job) (λ e. false) (λ e. rw h (and_false (waits_as job e))) qs ∙ none qs
  where
    none_in : (es : List EntryValue) → count_in (λ e. false) es ≡ 0
    none_in [] = refl
    none_in (e ∷ es) = omega (arith, none_in es)

    none : (qs : List QueueValue) → count_all (λ e. false) qs ≡ 0
    none [] = refl
    none (q ∷ qs) = omega (arith, none_in q.pending, none qs)

abbrev ordered_under : ℕ → Event → RoomLists → ℕ
ordered_under k (Orders job) s = if job.ticket == k then 1 else 0
ordered_under k _ s = 0

sent_outs : (k : ℕ) (job : Task) (qs : List QueueValue) → count_all (waits_as job) qs ≡ 1 → count_all (is_out_under k)
    (map (in_queue (into_phase (waits_as job) Out)) qs) ≡ count_all (is_out_under k) qs + (if job.ticket == k then 1 else 0)
sent_outs k job qs h = omega (
  arith,
  count_more (is_out_under k) (is_out_under k) (waits_under k job) (into_phase (waits_as job)
      Out) (one_sent k job) qs,
  waits_count k job (job.ticket == k) refl qs,
  ap (λ n. if job.ticket == k then n else 0) h,
)

ordered_outs : (k : ℕ) (e : Event) (s : RoomLists) → is_ordered e ≡ true → May e s → all_out k (after e s) ≡ all_out k s + ordered_under k e s
ordered_outs k (Hears b x) s h m = absurd (true≢false (sym h))
ordered_outs k (Takes n x) s h m = absurd (true≢false (sym h))
ordered_outs k (Orders job) s h m = sent_outs k job s.content.queues (sym (count_entries (waits_as job) s.content) ∙ m.1)
ordered_outs k (Gives n d) s h m = absurd (true≢false (sym h))

times_append : (k : ℕ) (xs ys : List Order) → times_ordered k (xs ++ ys) ≡ times_ordered k xs + times_ordered k ys
times_append k [] ys = omega arith
times_append k (Solve job ∷ xs) ys = omega (arith, times_append k xs ys)
times_append k (Stop ∷ xs) ys = times_append k xs ys

ordered_times : (k : ℕ) (e : Event) (s : RoomLists) → is_ordered e ≡ true → May e s
    → times_ordered k (after e s).orders ≡ times_ordered k s.orders + ordered_under k e s
ordered_times k (Hears b x) s h m = absurd (true≢false (sym h))
ordered_times k (Takes n x) s h m = absurd (true≢false (sym h))
ordered_times k (Orders job) s h m = omega (arith, times_append k s.orders (Solve job ∷ []))
ordered_times k (Gives n d) s h m = absurd (true≢false (sym h))

more_orders : (es : List Event) (s t : RoomLists) → Leads es s t → (xs : List Order) × (t.orders ≡ s.orders ++ xs)
more_orders [] s t r = ([], ap (λ (u : RoomLists). u.orders) r ∙ sym (nil_append s.orders))
more_orders (Hears b x ∷ es) s t r = more_orders es (after (Hears b x) s) t r.1
more_orders (Takes n x ∷ es) s t r = more_orders es (after (Takes n x) s) t r.1
more_orders (Orders j ∷ es) s t r = let h = more_orders es (after (Orders j) s) t r.1 in
    (Solve j ∷ h.0, h.1 ∙ append_assoc s.orders (Solve j ∷ []) h.0)
more_orders (Gives n d ∷ es) s t r = more_orders es (after (Gives n d) s) t r.1

-- the entries out after a turn
pub turned_out : (s t : RoomLists) (n : Turn) → Turned s t n → (ticket : ℕ) → outs ticket t.content
    ≡ times_ordered ticket (drop (length s.orders) t.orders) + still_out ticket (gained s.heard t.heard) s.content
turned_out s t n r ticket =
    let a = r.after_hearing in
    let b = r.after_taking in
    let c = r.after_ordering in
    let h = r.heard in
    let k = r.taken in
    let o = r.ordered in
    let g = r.given in
    let first = run_heard ticket h.events s a h.kind h.leads in
    let heard : t.heard ≡ a.heard = run_same (λ x. x.heard) is_given given_heard g.events c t g.kind g.leads
    ∙ (run_same (λ x. x.heard) is_ordered ordered_heard o.events b c o.kind o.leads
    ∙ run_same (λ x. x.heard) is_taken taken_heard k.events a b k.kind k.leads) in
    let before : b.orders ≡ s.orders = run_same (λ x. x.orders) is_taken taken_orders k.events a b k.kind k.leads
    ∙ run_same (λ x. x.orders) is_heard heard_orders h.events s a h.kind h.leads in
    let later : t.orders ≡ c.orders = run_same (λ x. x.orders) is_given given_orders g.events c t g.kind g.leads in
    let m = more_orders o.events b c o.leads in
    let cut : drop (length s.orders) t.orders ≡ m.0 =
    ap (λ os. drop (length os) t.orders) (sym before) ∙ (ap (drop (length b.orders)) (later ∙ m.1) ∙ drop_all b.orders m.0) in
    let old : still_out ticket (gained s.heard t.heard) s.content ≡ all_out ticket a =
    count_entries (is_still_out ticket (gained s.heard t.heard)) s.content
    ∙ (ap (λ hs. stills ticket (gained s.heard hs) s.content) heard ∙ sym first.outs) in
    omega (
      arith,
      count_entries (is_out_under ticket) t.content,
      run_same (all_out ticket) is_given (given_outs ticket) g.events c t g.kind g.leads,
      run_adds (all_out ticket) (ordered_under ticket) is_ordered (ordered_outs ticket) o.events b c o.kind o.leads,
      run_adds (λ x. times_ordered ticket x.orders) (ordered_under ticket) is_ordered (ordered_times ticket) o.events b c o.kind o.leads,
      run_same (all_out ticket) is_taken (taken_outs ticket) k.events a b k.kind k.leads,
      ap (times_ordered ticket) m.1,
      times_append ticket b.orders m.0,
      ap (times_ordered ticket) cut,
      old,
    )
