-- What holds at the end of a turn.
use Rattle.std.proofs.Common.{◌≡◌, ◌<◌, ◌≤◌, ◌⊎◌, inl, inr, ⊎_elim, true≢false, ℕ, zero, suc, ◌+◌, ◌-◌, ◌^◌, ◌==◌, Bool, true}
use Rattle.std.proofs.Common.{false, not, ◌&&◌, nat_lt, nat_le, if◌then◌else◌, List, [], ◌∷◌, length, map, get_or, slice_get}
use Rattle.std.proofs.Common.{is_none, Option, Some, None, refl, sym, ap, ◌∙◌, arith, length-append, count_by}
use Rattle.std.proofs.lemmas.Bool.Decides.{nat_tests}
use Rattle.mate_desk.specs.Content.{Content, QueueValue, EntryValue, Phase, Waiting, Out, Finished, entries}
use Rattle.mate_desk.specs.Content.{is_waiting, is_out, is_finished, waits, waits_as, is_out_with}
use Rattle.mate_desk.specs.Calls.{change_at, in_queue, into_phase, with_entry, withdrawn_at}
use Rattle.mate_desk.specs.Calls.{submit_refusal_by, ready_first, collected, collected_by}
use Rattle.mate_desk.specs.Deliveries.{delivery}
use Rattle.mate_desk.specs.declared.refusals.SubmitRefusal.TheVariants as refusal
use Rattle.mate_jobs.specs.declared.deliveries.Delivery.{Delivery}
use Rattle.desk_room.specs.Events.{RoomLists, Event, Takes, Gives, Orders, Hears, May, after, one_more}
use Rattle.desk_room.specs.Events.{accepts, is_heard, is_taken, is_ordered, is_given}
use Rattle.desk_room.specs.Passes.{Taking, Giving, Ordering, Hearing}
use Rattle.desk_room.specs.Turns.{IsFilled, pending_at, room_at}
use Rattle.room_ends.specs.declared.letters.Letter.TheVariants.{Record, Withdrawal, Farewell}
use Rattle.room_ends.specs.declared.letters.Back.TheVariants.{Solved, Returned}
use Rattle.desk_room.proofs.Places.{map_length}
use Rattle.desk_room.proofs.Counting.{count_in, count_all, count_entries}
use Rattle.desk_room.proofs.Queues.{ready_at, pending_map, gone, first_is, collected_is, ready_fewer}
use Rattle.desk_room.proofs.Leaving.{run_same, run_keeps, heard_put, taken_put, ordered_next, given_next, given_orders, closed_kept}

-- What is ready neither waits nor is out.
not_waiting : (p : Phase) (w : Bool) → (if w then not (is_out p) else is_finished p) ≡ true → (is_waiting p && not w) ≡ false
not_waiting Waiting true e = refl
not_waiting Waiting false e = absurd (cc)
not_waiting Out w e = refl
not_waiting Finished w e = refl

gone_waiting : (d : Delivery) (q : QueueValue) → delivery (ready_first q.pending) ≡ Some d
    → count_in waits (gone q).pending ≡ count_in waits q.pending
gone_waiting d q h =
    let f = first_is d q.pending h in
    rw (f.there, not_waiting f.entry.phase f.entry.withdrawn f.ready) (omega arith)

all_gone : (n : ℕ) (d : Delivery) (qs : List QueueValue) → delivery (ready_first (pending_at n qs)) ≡ Some d
    → count_all waits (change_at n gone qs) ≡ count_all waits qs
all_gone zero d [] h = refl
all_gone (suc n) d [] h = refl
all_gone zero d (q ∷ qs) h = omega (arith, gone_waiting d q h)
all_gone (suc n) d (q ∷ qs) h = omega (arith, all_gone n d qs h)

given_waiting : (e : Event) (s : RoomLists) → is_given e ≡ true → May e s
    → count_all waits (after e s).content.queues ≡ count_all waits s.content.queues
given_waiting (Hears b x) s k m = absurd (true≢false (sym k))
given_waiting (Takes n x) s k m = absurd (true≢false (sym k))
given_waiting (Orders job) s k m = absurd (true≢false (sym k))
given_waiting (Gives n d) s k m =
    let r : delivery (ready_first (pending_at n s.content.queues)) ≡ Some d = ap delivery (sym (ready_at n s.content.queues)) ∙ m.1 in
    ap (count_all waits) (collected_is n d s.content.queues r) ∙ all_gone n d s.content.queues r

-- Deliveries change nothing of what waits, of orders and of letters.
pub giving_waiting : (s t : RoomLists) (n : ℕ) → Giving s t n → count_by waits (entries t.content) ≡ count_by waits (entries s.content)
giving_waiting s t n g = count_entries waits t.content ∙ (run_same (λ x. count_all waits x.content.queues) is_given given_waiting
    g.events s t g.kind g.leads ∙ sym (count_entries waits s.content))

pub giving_orders : (s t : RoomLists) (n : ℕ) → Giving s t n → t.orders ≡ s.orders
giving_orders s t n g = run_same (λ x. x.orders) is_given given_orders g.events s t g.kind g.leads

-- Rooms stay.
room_change : (i n : ℕ) (g : QueueValue → QueueValue) (qs : List QueueValue) → ((q : QueueValue) → (g q).room ≡ q.room)
    → room_at i (change_at n g qs) ≡ room_at i qs
room_change i zero g [] each = refl
room_change i (suc n) g [] each = refl
room_change zero zero g (q ∷ qs) each = each q
room_change (suc i) zero g (q ∷ qs) each = refl
room_change zero (suc n) g (q ∷ qs) each = refl
room_change (suc i) (suc n) g (q ∷ qs) each = room_change i n g qs each

room_map : (i : ℕ) (f : EntryValue → EntryValue) (qs : List QueueValue) → room_at i (map (in_queue f) qs) ≡ room_at i qs
room_map i f [] = refl
room_map zero f (q ∷ qs) = refl
room_map (suc i) f (q ∷ qs) = room_map i f qs

pub room_withdrawn : (m : ℕ) (q : QueueValue) → (withdrawn_at m q).room ≡ q.room
room_withdrawn m q =
    (elim (nat_lt m q.delivered) as (λ b. (if b then q else record {
      room = q.room;
      delivered = q.delivered;
      pending = change_at
          (m - q.delivered) Rattle.mate_desk.specs.Calls.withdrawn q.pending;
    }).room ≡ q.room) [ true ↦ refl | false ↦ refl ])

pub room_collected : (q : QueueValue) → (collected q).room ≡ q.room
room_collected q = by_first (ready_first q.pending)
  where
    by_first : (o : Option EntryValue) → (collected_by o q).room ≡ q.room
    by_first None = refl
    by_first (Some e) = refl

pub room_kept : (i : ℕ) (e : Event) (s : RoomLists) → room_at i (after e s).content.queues ≡ room_at i s.content.queues
room_kept i (Hears b (Solved d)) s = room_map i (into_phase (is_out_with d) Finished) s.content.queues
room_kept i (Hears b (Returned j)) s = room_map i (into_phase (is_out_with j) Waiting) s.content.queues
room_kept i (Takes n (Record r)) s = room_change i n (with_entry s.content.next r) s.content.queues (λ q. refl)
room_kept i (Takes n (Withdrawal m)) s = room_change i n (withdrawn_at m) s.content.queues (room_withdrawn m)
room_kept i (Takes n Farewell) s = refl
room_kept i (Orders job) s = room_map i (into_phase (waits_as job) Out) s.content.queues
room_kept i (Gives n d) s = room_change i n collected s.content.queues room_collected

-- pending and delivered together
given_sum : (n i : ℕ) (d : Delivery) (qs : List QueueValue) (ps : List (List Delivery)) → n < length ps
    → delivery (ready_first (pending_at n qs)) ≡ Some d
    → length (pending_at i (change_at n gone qs)) + length (get_or (change_at n (one_more d) ps) i [])
    ≡ length (pending_at i qs) + length (get_or ps i [])
given_sum n i d qs [] h e = absurd (omega arith)
given_sum zero i d [] (p ∷ ps) h e = absurd (cc)
given_sum (suc n) i d [] (p ∷ ps) h e = absurd (cc)
given_sum zero zero d (q ∷ qs) (p ∷ ps) h e = omega (arith, ready_fewer d q.pending e, length-append p (d ∷ []))
given_sum zero (suc i) d (q ∷ qs) (p ∷ ps) h e = refl
given_sum (suc n) zero d (q ∷ qs) (p ∷ ps) h e = refl
given_sum (suc n) (suc i) d (q ∷ qs) (p ∷ ps) h e = given_sum n i d qs ps (omega arith) e

abbrev both : ℕ → RoomLists → ℕ
both i s = length (pending_at i s.content.queues) + length (get_or s.put i [])

ordered_both : (i : ℕ) (e : Event) (s : RoomLists) → is_ordered e ≡ true → May e s → both i (after e s) ≡ both i s
ordered_both i (Hears b x) s k m = absurd (true≢false (sym k))
ordered_both i (Takes n x) s k m = absurd (true≢false (sym k))
ordered_both i (Orders job) s k m =
    ap (λ l. l + length (get_or s.put i [])) (ap length (pending_map (into_phase (waits_as job) Out) i s.content.queues)
    ∙ map_length (into_phase (waits_as job) Out) (pending_at i s.content.queues))
ordered_both i (Gives n d) s k m = absurd (true≢false (sym k))

given_both : (i : ℕ) (e : Event) (s : RoomLists) → is_given e ≡ true → May e s → both i (after e s) ≡ both i s
given_both i (Hears b x) s k m = absurd (true≢false (sym k))
given_both i (Takes n x) s k m = absurd (true≢false (sym k))
given_both i (Orders job) s k m = absurd (true≢false (sym k))
given_both i (Gives n d) s k m =
    let r : delivery (ready_first (pending_at n s.content.queues)) ≡ Some d = ap delivery (sym (ready_at n s.content.queues)) ∙ m.1 in
    ap (λ qs. length (pending_at i qs) + length (get_or (change_at n (one_more d) s.put) i []))
    (collected_is n d s.content.queues r) ∙ given_sum n i d s.content.queues s.put m.0 r

got_queue : (n : ℕ) (qs : List QueueValue) → n < length qs
    → (q : QueueValue) × (slice_get qs n ≡ Some q) × (q.room ≡ room_at n qs) × (q.pending ≡ pending_at n qs)
got_queue n [] h = absurd (omega arith)
got_queue zero (q ∷ qs) h = (q, refl, refl, refl)
got_queue (suc n) (q ∷ qs) h = got_queue n qs (omega arith)

pub why_not : (c : Content) (n : ℕ) → n < length c.queues → accepts c n ≡ false
    → (c.closed ≡ true) ⊎ (c.next ≡ 2 ^ 64 - 1) ⊎ (room_at n c.queues ≤ length (pending_at n c.queues))
why_not c n h e =
    let g = got_queue n c.queues h in
    let r : is_none (submit_refusal_by c.closed c.next (Some g.0)) ≡ false = ap (λ o. is_none (submit_refusal_by c.closed c.next o)) (sym g.1) ∙ e in
    by_tests g.0 g.2 g.3 c.closed refl (nat_le g.0.room (length g.0.pending)) refl (c.next == 2 ^ 64 - 1) refl r
  where
    by_tests : (q : QueueValue) → q.room ≡ room_at n c.queues → q.pending ≡ pending_at n c.queues → (a : Bool) → c.closed ≡ a
        → (b : Bool) → nat_le q.room (length q.pending) ≡ b → (d : Bool) → (c.next == 2 ^ 64 - 1) ≡ d
        → is_none (if a then Some refusal.Closed else (if b then Some refusal.Full else (if d then Some refusal.Exhausted else None))) ≡ false
        → (c.closed ≡ true) ⊎ (c.next ≡ 2 ^ 64 - 1) ⊎ (room_at n c.queues ≤ length (pending_at n c.queues))
    by_tests q x y true a b f d g k = inl a
    by_tests q x y false a true f d g k = inr (inr (full q x y f))
      where
        full : (q : QueueValue) → q.room ≡ room_at n c.queues → q.pending ≡ pending_at n c.queues
            → nat_le q.room (length q.pending) ≡ true → room_at n c.queues ≤ length (pending_at n c.queues)
        full q x y f = let le : q.room ≤ length q.pending = grind (arith, nat_tests, f) in omega (arith, le, x, ap length y)
    by_tests q x y false a false f true g k = inr (inl (most c.next g))
      where
        most : (m : ℕ) → (m == 2 ^ 64 - 1) ≡ true → m ≡ 2 ^ 64 - 1
        most m e = grind (arith, nat_tests, e)
    by_tests q x y false a false f false g k = absurd (true≢false k)

-- where the desk accepts no more after the second pass
pub filled : (s a b c t : RoomLists) (n h1 h2 h3 t1 t2 t3 o g : ℕ) → Hearing s a h1 h2 h3 → Taking a b t1 t2 t3 → Ordering b c o
    → Giving c t g → n < length b.content.queues → accepts b.content n ≡ false → IsFilled n s t
filled s a b c t n h1 h2 h3 t1 t2 t3 o g hh tt1 oo gg inside refuses =
    let put : b.put ≡ s.put = run_same (λ x. x.put) is_taken taken_put tt1.events a b tt1.kind tt1.leads
    ∙ run_same (λ x. x.put) is_heard heard_put hh.events s a hh.kind hh.leads in
    let closed : t.content.closed ≡ b.content.closed = run_keeps (λ x. x.content.closed) closed_kept gg.events c t gg.leads
    ∙ run_keeps (λ x. x.content.closed) closed_kept oo.events b c oo.leads in
    let room : room_at n t.content.queues ≡ room_at n b.content.queues = run_keeps (λ x. room_at n x.content.queues)
    (room_kept n) gg.events c t gg.leads ∙ run_keeps (λ x. room_at n x.content.queues) (room_kept n) oo.events b c oo.leads in
    let next : t.content.next ≡ b.content.next = run_same (λ x. x.content.next) is_given given_next gg.events c t gg.kind gg.leads
    ∙ run_same (λ x. x.content.next) is_ordered ordered_next oo.events b c oo.kind oo.leads in
    let sum : both n t ≡ both n b = run_same (both n) is_given (given_both n) gg.events c t gg.kind gg.leads
    ∙ run_same (both n) is_ordered (ordered_both n) oo.events b c oo.kind oo.leads in
    ⊎_elim (λ (e : b.content.closed ≡ true). inl (closed ∙ e))
    (⊎_elim (λ (e : b.content.next ≡ 2 ^ 64 - 1). inr (inl (next ∙ e)))
    (λ (e : room_at n b.content.queues ≤ length (pending_at n b.content.queues)).
    inr (inr (omega (arith, sum, room, e, ap (λ ps. length (get_or ps n [])) put)))))
    (why_not b.content n inside refuses)
