-- The counts of a turn are what its lists gained.
use Rattle.std.proofs.Common.{◌≡◌, ◌<◌, ◌≤◌, true≢false, ℕ, zero, suc, ◌+◌, ◌-◌, Bool, true, false, nat_lt, nat_le, if◌then◌else◌, List}
use Rattle.std.proofs.Common.{[], ◌∷◌, ◌++◌, length, slice_get, is_none, Some, None, refl, sym, ap, ◌∙◌, arith, length-append}
use Rattle.std.proofs.lemmas.Bool.Decides.{nat_tests}
use Rattle.mate_desk.specs.Content.{QueueValue, EntryValue, Phase, Waiting, Out, Finished, waits_as, is_out_with}
use Rattle.mate_desk.specs.Calls.{change_at, into_phase, has_out, with_entry, withdrawn, withdrawn_at}
use Rattle.mate_desk.specs.Calls.{withdraw_refusal_of, withdraw_refusal_by, ready_first}
use Rattle.mate_desk.specs.Deliveries.{delivery, delivery_of}
use Rattle.mate_desk.specs.declared.refusals.WithdrawRefusal.TheVariants as refusal
use Rattle.mate_jobs.specs.declared.deliveries.Delivery.{Delivery}
use Rattle.mate_jobs.specs.Jobs.{answer_to}
use Rattle.mate_jobs.specs.declared.deliveries.Delivery.TheVariants.{Answer, Notice}
use Rattle.room_ends.specs.Letters.{records, farewells}
use Rattle.desk_room.specs.Events.{RoomLists, Event, Takes, Gives, Orders, Hears, May, after, one_more, one_if, tally, is_heard, is_taken}
use Rattle.desk_room.specs.Events.{is_ordered, is_given, accepted_by, byes_by, withdrawn_by, solved_by, returned_by, strangers_by}
use Rattle.desk_room.specs.Kept.{is_withdrawn}
use Rattle.desk_room.specs.Turns.{Turned, AreGains, total, notices, withdrawals, pending_at}
use Rattle.desk_room.specs.declared.turns.Turn.{Turn}
use Rattle.room_ends.specs.declared.letters.Letter.TheVariants.{Record, Withdrawal, Farewell}
use Rattle.room_ends.specs.declared.letters.Back.{Back}
use Rattle.room_ends.specs.declared.letters.Back.TheVariants.{Solved, Returned}
use Rattle.room_ends.specs.declared.deque_rule.Order.TheVariants.{Solve}
use Rattle.desk_room.proofs.LetterCounts.{records_append, farewells_count}
use Rattle.desk_room.proofs.Places.{change_past}
use Rattle.desk_room.proofs.Counting.{count_in, count_all, count_entries, count_same, count_change, count_snoc}
use Rattle.desk_room.proofs.Queues.{ready_at, gone, first_is, collected_is}
use Rattle.desk_room.proofs.Leaving.{run_same, run_keeps, run_adds, run_counts, heard_taken, heard_put, heard_orders}
use Rattle.desk_room.proofs.Leaving.{taken_put, taken_heard, taken_orders, ordered_taken, ordered_put, ordered_heard}
use Rattle.desk_room.proofs.Leaving.{given_taken, given_heard, given_orders, closed_kept}

total_change : {A : Type 0} (h : A → ℕ) (g : A → A) (k n : ℕ) (xs : List A) → ((a : A) → h (g a) ≡ h a + k) → n < length xs
    → total h (change_at n g xs) ≡ total h xs + k
total_change h g k n [] each m = absurd (omega arith)
total_change h g k zero (x ∷ xs) each m = omega (arith, each x)
total_change h g k (suc n) (x ∷ xs) each m = omega (arith, total_change h g k n xs each (omega arith))

adds_records : (e : Event) (s : RoomLists) → is_taken e ≡ true → May e s
    → total (λ l. length (records l)) (after e s).taken ≡ total (λ l. length (records l)) s.taken + accepted_by e s
adds_records (Hears b x) s k m = absurd (true≢false (sym k))
adds_records (Takes n x) s k m = total_change (λ l. length (records l)) (one_more x) (length (records (x ∷ []))) n s.taken
    (λ a. omega (arith, ap length (records_append a (x ∷ [])), length-append (records a) (records (x ∷ [])))) m.0
adds_records (Orders job) s k m = absurd (true≢false (sym k))
adds_records (Gives n d) s k m = absurd (true≢false (sym k))

adds_farewells : (e : Event) (s : RoomLists) → is_taken e ≡ true → May e s → total farewells (after e s).taken ≡ total farewells s.taken + byes_by e s
adds_farewells (Hears b x) s k m = absurd (true≢false (sym k))
adds_farewells (Takes n x) s k m = total_change farewells (one_more x) (farewells (x ∷ [])) n s.taken (λ a. farewells_count a (x ∷ [])) m.0
adds_farewells (Orders job) s k m = absurd (true≢false (sym k))
adds_farewells (Gives n d) s k m = absurd (true≢false (sym k))

adds_put : (e : Event) (s : RoomLists) → is_given e ≡ true → May e s → total length (after e s).put ≡ total length s.put + 1
adds_put (Hears b x) s k m = absurd (true≢false (sym k))
adds_put (Takes n x) s k m = absurd (true≢false (sym k))
adds_put (Orders job) s k m = absurd (true≢false (sym k))
adds_put (Gives n d) s k m = total_change length (one_more d) 1 n s.put (λ a. length-append a (d ∷ [])) m.0

adds_order : (e : Event) (s : RoomLists) → is_ordered e ≡ true → May e s → length (after e s).orders ≡ length s.orders + 1
adds_order (Hears b x) s k m = absurd (true≢false (sym k))
adds_order (Takes n x) s k m = absurd (true≢false (sym k))
adds_order (Orders job) s k m = length-append s.orders (Solve job ∷ [])
adds_order (Gives n d) s k m = absurd (true≢false (sym k))

abbrev all_by : Event → RoomLists → ℕ
all_by e s = solved_by e s + (returned_by e s + strangers_by e s)

one_of : (b : ℕ) (x : Back) (s : RoomLists) → all_by (Hears b x) s ≡ 1
one_of b (Solved d) s = (elim (has_out s.content d) as (λ h. one_if h + (0 + (if h then 0 else 1)) ≡ 1) [ true ↦ refl | false ↦ refl ])
one_of b (Returned j) s = (elim (has_out s.content j) as (λ h. 0 + (one_if h + (if h then 0 else 1)) ≡ 1) [ true ↦ refl | false ↦ refl ])

adds_heard : (e : Event) (s : RoomLists) → is_heard e ≡ true → May e s → total length (after e s).heard ≡ total length s.heard + all_by e s
adds_heard (Hears b x) s k m = omega (arith, total_change length (one_more x) 1 b s.heard (λ a. length-append a (x ∷ [])) m, one_of b x s)
adds_heard (Takes n x) s k m = absurd (true≢false (sym k))
adds_heard (Orders job) s k m = absurd (true≢false (sym k))
adds_heard (Gives n d) s k m = absurd (true≢false (sym k))

tally_sum : (es : List Event) (s : RoomLists) → tally all_by es s ≡ tally solved_by es s + (tally returned_by es s + tally strangers_by es s)
tally_sum [] s = refl
tally_sum (e ∷ es) s = omega (arith, tally_sum es (after e s))

-- how many are withdrawn
withdrawn_in : (p : EntryValue → Bool) (ph : Phase) (e : EntryValue) → is_withdrawn (into_phase p ph e) ≡ is_withdrawn e
withdrawn_in p ph e = elim (p e) as (λ b. is_withdrawn (if b then record {
  ticket = e.ticket;
  asked = e.asked;
  phase = ph;
  withdrawn = e.withdrawn;
} else e) ≡ e.withdrawn) [ true ↦ refl | false ↦ refl ]

abbrev all_withdrawn : RoomLists → ℕ
all_withdrawn s = count_all is_withdrawn s.content.queues + total notices s.put

withdrawals_are : (s : RoomLists) → withdrawals s ≡ all_withdrawn s
withdrawals_are s = ap (λ n. n + total notices s.put) (count_entries is_withdrawn s.content)

heard_withdrawn : (e : Event) (s : RoomLists) → is_heard e ≡ true → May e s → all_withdrawn (after e s) ≡ all_withdrawn s
heard_withdrawn (Hears b (Solved d)) s k m = ap (λ n. n + total notices s.put)
    (count_same is_withdrawn is_withdrawn _ (withdrawn_in (is_out_with d) Finished) s.content.queues)
heard_withdrawn (Hears b (Returned j)) s k m = ap (λ n. n + total notices s.put)
    (count_same is_withdrawn is_withdrawn _ (withdrawn_in (is_out_with j) Waiting) s.content.queues)
heard_withdrawn (Takes n x) s k m = absurd (true≢false (sym k))
heard_withdrawn (Orders job) s k m = absurd (true≢false (sym k))
heard_withdrawn (Gives n d) s k m = absurd (true≢false (sym k))

ordered_withdrawn : (e : Event) (s : RoomLists) → is_ordered e ≡ true → May e s → all_withdrawn (after e s) ≡ all_withdrawn s
ordered_withdrawn (Hears b x) s k m = absurd (true≢false (sym k))
ordered_withdrawn (Takes n x) s k m = absurd (true≢false (sym k))
ordered_withdrawn (Orders job) s k m = ap (λ n. n + total notices s.put)
    (count_same is_withdrawn is_withdrawn _ (withdrawn_in (waits_as job) Out) s.content.queues)
ordered_withdrawn (Gives n d) s k m = absurd (true≢false (sym k))

notices_append : (xs ys : List Delivery) → notices (xs ++ ys) ≡ notices xs + notices ys
notices_append [] ys = omega arith
notices_append (x ∷ xs) ys = omega (arith, notices_append xs ys)

-- of a delivery: a withdrawn entry less is pending where it is a notice
notice_is : (d : Delivery) (i : EntryValue) → delivery_of i ≡ d → one_if (is_withdrawn i) ≡ notices (d ∷ [])
notice_is d i h = own i.withdrawn ∙ ap (λ x. notices (x ∷ [])) h
  where
    own : (w : Bool) → one_if w ≡ notices ((if w then Notice i.ticket i.asked else Answer (answer_to i.asked)) ∷ [])
    own true = refl
    own false = refl

gone_withdrawn : (d : Delivery) (q : QueueValue) → delivery (ready_first q.pending) ≡ Some d
    → count_in is_withdrawn (gone q).pending + notices (d ∷ []) ≡ count_in is_withdrawn q.pending
gone_withdrawn d q h =
    let f = first_is d q.pending h in
    rw (f.there) (omega (arith, notice_is d f.entry f.given))

all_gone : (n : ℕ) (d : Delivery) (qs : List QueueValue) → delivery (ready_first (pending_at n qs)) ≡ Some d
    → count_all is_withdrawn (change_at n gone qs) + notices (d ∷ []) ≡ count_all is_withdrawn qs
all_gone zero d [] h = absurd (cc)
all_gone (suc n) d [] h = absurd (cc)
all_gone zero d (q ∷ qs) h = omega (arith, gone_withdrawn d q h)
all_gone (suc n) d (q ∷ qs) h = omega (arith, all_gone n d qs h)

given_withdrawn : (e : Event) (s : RoomLists) → is_given e ≡ true → May e s → all_withdrawn (after e s) ≡ all_withdrawn s
given_withdrawn (Hears b x) s k m = absurd (true≢false (sym k))
given_withdrawn (Takes n x) s k m = absurd (true≢false (sym k))
given_withdrawn (Orders job) s k m = absurd (true≢false (sym k))
given_withdrawn (Gives n d) s k m =
    let r : delivery (ready_first (pending_at n s.content.queues)) ≡ Some d = ap delivery (sym (ready_at n s.content.queues)) ∙ m.1 in
    omega (
      arith,
      ap (count_all is_withdrawn) (collected_is n d s.content.queues r),
      all_gone n d s.content.queues r,
      total_change notices (one_more d) (notices (d ∷ [])) n s.put (λ a. notices_append a (d ∷ [])) m.0,
    )

-- of a withdrawal
mark_counts : (j : ℕ) (es : List EntryValue) → j < length es → count_in is_withdrawn (change_at j withdrawn es)
    ≡ count_in is_withdrawn es + one_if (is_none (withdraw_refusal_by (slice_get es j)))
mark_counts j [] h = absurd (omega arith)
mark_counts zero (e ∷ es) h = here e.withdrawn (count_in is_withdrawn es)
  where
    here : (w : Bool) (n : ℕ) → 1 + n ≡ one_if w + n + one_if (is_none (if w then Some refusal.Withdrawn else None))
    here true n = omega arith
    here false n = omega arith
mark_counts (suc j) (e ∷ es) h = omega (arith, mark_counts j es (omega arith))

nth_counts : (m : ℕ) (q : QueueValue) → count_in is_withdrawn (withdrawn_at m q).pending
    ≡ count_in is_withdrawn q.pending + one_if (is_none (withdraw_refusal_of (Some q) m))
nth_counts m q = by_tests (nat_lt m q.delivered) refl (nat_le (q.delivered + length q.pending) m) refl
  where
    past : (d l : ℕ) → nat_le (d + l) m ≡ true → l ≤ m - d
    past d l h = let g : d + l ≤ m = grind (arith, nat_tests, h) in omega (arith, g)

    inside : (d l : ℕ) → nat_le (d + l) m ≡ false → nat_lt m d ≡ false → m - d < l
    inside d l h k = let g : m < d + l = grind (arith, nat_tests, h) in let i : d ≤ m = grind (arith, nat_tests, k) in omega (arith, g, i)

    both : (d l : ℕ) → nat_le (d + l) m ≡ true → nat_lt m d ≡ true → ⊥
    both d l h k = let g : d + l ≤ m = grind (arith, nat_tests, h) in let i : m < d = grind (arith, nat_tests, k) in absurd (omega (arith, g, i))

    by_tests : (c : Bool) → nat_lt m q.delivered ≡ c → (b : Bool) → nat_le (q.delivered + length q.pending) m ≡ b
        → count_in is_withdrawn (withdrawn_at m q).pending
        ≡ count_in is_withdrawn q.pending + one_if (is_none (withdraw_refusal_of (Some q) m))
    by_tests true k true h = absurd (both q.delivered (length q.pending) h k)
    by_tests true k false h = rw (h, k) (omega arith)
    by_tests false k true h = rw (h, k) (omega (
      arith,
      ap (count_in is_withdrawn) (change_past (m - q.delivered) withdrawn q.pending (past q.delivered (length q.pending) h)),
    ))
    by_tests false k false h = rw (h, k) (mark_counts (m - q.delivered) q.pending (inside q.delivered (length q.pending) h k))

all_marked : (n m : ℕ) (qs : List QueueValue) → count_all is_withdrawn (change_at n (withdrawn_at m) qs)
    ≡ count_all is_withdrawn qs + one_if (is_none (withdraw_refusal_of (slice_get qs n) m))
all_marked zero m [] = refl
all_marked (suc n) m [] = refl
all_marked zero m (q ∷ qs) = omega (arith, nth_counts m q)
all_marked (suc n) m (q ∷ qs) = omega (arith, all_marked n m qs)

adds_withdrawn : (e : Event) (s : RoomLists) → is_taken e ≡ true → May e s → all_withdrawn (after e s) ≡ all_withdrawn s + withdrawn_by e s
adds_withdrawn (Hears b x) s k m = absurd (true≢false (sym k))
adds_withdrawn (Takes n (Record r)) s k m =
    omega (
      arith,
      count_change is_withdrawn (with_entry s.content.next r) n s.content.queues (λ q.
          count_snoc is_withdrawn q.pending (record { ticket = s.content.next; asked = r; phase = Waiting; withdrawn = false }) refl),
    )
adds_withdrawn (Takes n (Withdrawal j)) s k m = omega (arith, all_marked n j s.content.queues)
adds_withdrawn (Takes n Farewell) s k m = omega arith
adds_withdrawn (Orders job) s k m = absurd (true≢false (sym k))
adds_withdrawn (Gives n d) s k m = absurd (true≢false (sym k))

-- the counts of a turn
pub gains : (s t : RoomLists) (n : Turn) → Turned s t n → AreGains s t n
gains s t n r =
    let a = r.after_hearing in
    let b = r.after_taking in
    let c = r.after_ordering in
    let h = r.heard in
    let k = r.taken in
    let o = r.ordered in
    let g = r.given in
    record {
      accepted = omega (
        arith,
        ap (total (λ l. length (records l))) (run_same (λ x. x.taken) is_heard heard_taken h.events s a h.kind h.leads),
        run_adds (λ x. total (λ l. length (records l)) x.taken) accepted_by is_taken adds_records k.events a b k.kind k.leads,
        ap (total (λ l. length (records l))) (run_same (λ x. x.taken) is_ordered ordered_taken o.events b c o.kind o.leads),
        ap (total (λ l. length (records l))) (run_same (λ x. x.taken) is_given given_taken g.events c t g.kind g.leads),
        k.accepted_counted,
      );
      withdrawn = omega (
        arith,
        withdrawals_are s,
        withdrawals_are t,
        run_same all_withdrawn is_heard heard_withdrawn h.events s a h.kind h.leads,
        run_adds all_withdrawn withdrawn_by is_taken adds_withdrawn k.events a b k.kind k.leads,
        run_same all_withdrawn is_ordered ordered_withdrawn o.events b c o.kind o.leads,
        run_same all_withdrawn is_given given_withdrawn g.events c t g.kind g.leads,
        k.withdrawn_counted,
      );
      byes = omega (
        arith,
        ap (total farewells) (run_same (λ x. x.taken) is_heard heard_taken h.events s a h.kind h.leads),
        run_adds (λ x. total farewells x.taken) byes_by is_taken adds_farewells k.events a b k.kind k.leads,
        ap (total farewells) (run_same (λ x. x.taken) is_ordered ordered_taken o.events b c o.kind o.leads),
        ap (total farewells) (run_same (λ x. x.taken) is_given given_taken g.events c t g.kind g.leads),
        k.byes_counted,
      );
      ordered = omega (
        arith,
        ap length (run_same (λ x. x.orders) is_heard heard_orders h.events s a h.kind h.leads),
        ap length (run_same (λ x. x.orders) is_taken taken_orders k.events a b k.kind k.leads),
        run_counts (λ x. length x.orders) is_ordered adds_order o.events b c o.kind o.leads,
        ap length (run_same (λ x. x.orders) is_given given_orders g.events c t g.kind g.leads),
        o.counted,
      );
      heard = omega (
        arith,
        run_adds (λ x. total length x.heard) all_by is_heard adds_heard h.events s a h.kind h.leads,
        tally_sum h.events s,
        ap (total length) (run_same (λ x. x.heard) is_taken taken_heard k.events a b k.kind k.leads),
        ap (total length) (run_same (λ x. x.heard) is_ordered ordered_heard o.events b c o.kind o.leads),
        ap (total length) (run_same (λ x. x.heard) is_given given_heard g.events c t g.kind g.leads),
        h.solved_counted,
        h.returned_counted,
        h.strangers_counted,
      );
      delivered = omega (
        arith,
        ap (total length) (run_same (λ x. x.put) is_heard heard_put h.events s a h.kind h.leads),
        ap (total length) (run_same (λ x. x.put) is_taken taken_put k.events a b k.kind k.leads),
        ap (total length) (run_same (λ x. x.put) is_ordered ordered_put o.events b c o.kind o.leads),
        run_counts (λ x. total length x.put) is_given adds_put g.events c t g.kind g.leads,
        g.counted,
      );
    }

pub turned_closed : (s t : RoomLists) (n : Turn) → Turned s t n → t.content.closed ≡ s.content.closed
turned_closed s t n r =
    run_keeps (λ x. x.content.closed) closed_kept r.given.events r.after_ordering t r.given.leads
    ∙ (run_keeps (λ x. x.content.closed) closed_kept r.ordered.events r.after_taking r.after_ordering r.ordered.leads
    ∙ (run_keeps (λ x. x.content.closed) closed_kept r.taken.events r.after_hearing r.after_taking r.taken.leads
    ∙ run_keeps (λ x. x.content.closed) closed_kept r.heard.events s r.after_hearing r.heard.leads))
