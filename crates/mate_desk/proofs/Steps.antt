-- What a change of one queue is to the whole desk.
use Rattle.std.proofs.Common.{◌≡◌, ◌≢◌, ℕ, zero, suc, [], ◌∷◌, is_some, ◌<◌, ◌+◌, ◌≤◌, ◌==◌, nat_le, List, length}
use Rattle.std.proofs.Common.{set, get_or, Bool, true, false, ap, refl, sym, ◌∙◌, subst, arith, None, Some, Option}
use Rattle.std.proofs.Common.{slice_get, count_by, IfNone, IfSome, IfOk, IfErr, Result, Ok, Err}
use Rattle.std.specs.List.{list_any}
use Rattle.std.proofs.lemmas.Bool.Decides.{nat_tests}
use Rattle.mate_jobs.specs.Jobs.{Task}
use Rattle.mate_desk.specs.Content.{Content, EntryValue, QueueValue, Phase, Waiting, Out, Finished, is_waiting}
use Rattle.mate_desk.specs.Content.{is_out, waits, has_ticket, waits_as, is_out_with, entries, lowest}
use Rattle.mate_desk.specs.Calls.{with_queue, in_queue, everywhere, into_phase, has_out, after_take, after_return, submit_refusal, submit_refusal_by}
use Rattle.mate_desk.specs.Calls.{withdraw_refusal, withdraw_refusal_of, withdrawn_at, after_withdraw, change_at, ready}
use Rattle.mate_desk.specs.Calls.{ready_of, ready_first, collected, collected_by, after_collect}
use Rattle.mate_desk.specs.Laws.{AreKept}
use Rattle.mate_desk.specs.inside.Keeping.{IsOutAt, IsOutIn}
use Rattle.mate_desk.specs.declared.refusals.SubmitRefusal.TheVariants as refused
use Rattle.mate_desk.specs.declared.refusals.WithdrawRefusal.{WithdrawRefusal}
use Rattle.mate_desk.proofs.Tests.{and_tells}
use Rattle.mate_desk.proofs.Changes.{got, got_one, got_inside, got_past, change_set, set_same, got_set, phase_other, ticket_own, waits_own, out_own, OfTicket}
use Rattle.mate_desk.proofs.Joined.{joined, any_in}
use Rattle.mate_desk.proofs.Kept.{any_got}
use Rattle.mate_desk.proofs.Distinct.{count_at, count_any, count_le, count_apart, queues_at, Implies}
use Rattle.mate_desk.proofs.Following.{Follows, follows_same, follows_map, follows_withdrawn, phase_keeps}

abbrev pub holding : List QueueValue → ℕ → Bool → Content
holding qs next closed = record { queues = qs; next = next; closed = closed }

waits_named : (task : Task) → Implies (waits_as task) (has_ticket task.ticket)
waits_named task e t = (and_tells (has_ticket task.ticket e) _ (and_tells (waits e) _ t).1).0

out_named : (task : Task) → Implies (is_out_with task) (has_ticket task.ticket)
out_named task e t = (and_tells (has_ticket task.ticket e) _ (and_tells (is_out e.phase) _ t).1).0

waiting_in : (p : Phase) → is_waiting p ≡ true → is_out p ≡ false
waiting_in Waiting t = refl
waiting_in Out t = cc
waiting_in Finished t = refl

waits_apart : (task : Task) (e : EntryValue) → waits_as task e ≡ true → is_out_with task e ≡ false
waits_apart task e t =
    let waiting : is_waiting e.phase ≡ true = (and_tells (is_waiting e.phase) _ (and_tells (waits e) _ t).0).0 in
    let in_hand : is_out e.phase ≡ false = waiting_in e.phase waiting in
    rw in_hand refl

-- Entries of one ticket that come into a phase in one queue do so everywhere.
pub phase_at : (next : ℕ) (closed : Bool) (qs : List QueueValue) (n : ℕ) (q m : QueueValue) (ticket : ℕ)
    (test : EntryValue → Bool) (phase : Phase) → AreKept next qs → slice_get qs n ≡ Some q
    → OfTicket ticket test → 1 ≤ count_by (has_ticket ticket) q.pending → m ≡ in_queue (into_phase test phase) q
    → holding (set qs n m) next closed ≡ everywhere (into_phase test phase) (holding qs next closed)
phase_at next closed qs n q m ticket test phase kept g own some is =
    ap (λ (rs : List QueueValue). holding rs next closed) (ap (set qs n) is
    ∙ queues_at ticket (into_phase test phase) qs n q (phase_other ticket test phase own) g some (kept.distinct ticket))

-- a job given out
pub take_follows : (q m : QueueValue) (r : Option Task) → IfNone r ((lowest q.pending ≡ None) × (m ≡ q))
    → IfSome r (λ job. m ≡ in_queue (into_phase (waits_as job) Out) q) → Follows q m
take_follows q m None none out = subst (Follows q) (sym none.1) (follows_same q)
take_follows q m (Some job) none out = subst (Follows q) (sym out) (follows_map (into_phase (waits_as job) Out) q (phase_keeps (waits_as job) Out))

pub take_none : (whole : Option ℕ) (q m : QueueValue) (r : Option Task) → lowest q.pending ≡ whole
    → IfNone r ((lowest q.pending ≡ None) × (m ≡ q)) → IfNone r (whole ≡ None)
take_none whole q m None low none = sym low ∙ none.0
take_none whole q m (Some job) low none = tt

pub take_unchanged : (next : ℕ) (closed : Bool) (qs : List QueueValue) (n : ℕ) (q m : QueueValue) (r : Option Task)
    → slice_get qs n ≡ Some q → IfNone r ((lowest q.pending ≡ None) × (m ≡ q))
    → IfNone r (holding (set qs n m) next closed ≡ holding qs next closed)
take_unchanged next closed qs n q m None g none = ap (λ (rs : List QueueValue). holding rs next closed) (ap (set qs n) none.1 ∙ set_same n qs q g)
take_unchanged next closed qs n q m (Some job) g none = tt

pub take_lowest : (whole : Option ℕ) (q : QueueValue) (r : Option Task) → lowest q.pending ≡ whole
    → IfSome r (λ job. lowest q.pending ≡ Some job.ticket) → IfSome r (λ job. whole ≡ Some job.ticket)
take_lowest whole q None low is = tt
take_lowest whole q (Some job) low is = sym low ∙ is

-- what holds once a job is given out
pub record GivenOut (old new : Content) (job : Task) : Type 0 where
  pub out : new ≡ after_take old job
  pub by_ticket : new ≡ everywhere (into_phase (has_ticket job.ticket) Out) old
  pub one_waited : count_by (waits_as job) (entries old) ≡ 1
  pub none_was_out : count_by (is_out_with job) (entries old) ≡ 0
  pub given : has_out new job ≡ true

pub given_out : (next : ℕ) (closed : Bool) (qs : List QueueValue) (n : ℕ) (q m : QueueValue) (r : Option Task)
    → AreKept next qs → slice_get qs n ≡ Some q
    → IfSome r (λ job. m ≡ in_queue (into_phase (waits_as job) Out) q) → IfSome r (λ job. m ≡ in_queue (into_phase (has_ticket job.ticket) Out) q)
    → IfSome r (λ job. list_any (waits_as job) q.pending ≡ true) → IfSome r (λ job. list_any (is_out_with job) m.pending ≡ true)
    → IfSome r (λ job. GivenOut (holding qs next closed) (holding (set qs n m) next closed) job)
given_out next closed qs n q m None kept g out by_ticket waited given = tt
given_out next closed qs n q m (Some job) kept g out by_ticket waited given =
    let some : 1 ≤ count_by (waits_as job) q.pending = count_any (waits_as job) q.pending waited in
    let named : count_by (waits_as job) q.pending ≤ count_by (has_ticket job.ticket) q.pending =
    count_le (waits_as job) (has_ticket job.ticket) q.pending (waits_named job) in
    let here : 1 ≤ count_by (has_ticket job.ticket) q.pending = omega (arith, some, named) in
    let there : count_by (waits_as job) q.pending ≤ count_by (waits_as job) (joined qs) = count_at (waits_as job) qs n q g in
    let both : count_by (waits_as job) (joined qs) + count_by (is_out_with job) (joined qs) ≤ count_by (has_ticket job.ticket) (joined qs) =
    count_apart (waits_as job) (is_out_with job) (has_ticket job.ticket) (joined qs) (waits_apart job) (waits_named job) (out_named job) in
    let one : count_by (has_ticket job.ticket) (joined qs) ≤ 1 = kept.distinct job.ticket in
    record {
      out = phase_at next closed qs n q m job.ticket (waits_as job) Out kept g (waits_own job) here out;
      by_ticket = phase_at next closed qs n q m job.ticket (has_ticket job.ticket) Out kept g (ticket_own job.ticket) here by_ticket;
      one_waited = omega (arith, some, there, both, one);
      none_was_out = omega (arith, some, there, both, one);
      given = any_in (is_out_with job) (set qs n m) n m (got_set n qs q m g) given;
    }

-- what holds once a job came back
pub record CameBack (old new : Content) (job : Task) (phase : Phase) : Type 0 where
  pub known : has_out old job ≡ true
  pub back : new ≡ after_return old job phase
  pub by_ticket : new ≡ everywhere (into_phase (has_ticket job.ticket) phase) old

pub came_back : (next : ℕ) (closed : Bool) (qs : List QueueValue) (n place : ℕ) (q m : QueueValue) (job : Task) (phase : Phase)
    → AreKept next qs → slice_get qs n ≡ Some q → IsOutAt job place q.pending
    → m ≡ in_queue (into_phase (is_out_with job) phase) q → m ≡ in_queue (into_phase (has_ticket job.ticket) phase) q
    → CameBack (holding qs next closed) (holding (set qs n m) next closed) job phase
came_back next closed qs n place q m job phase kept g at back by_ticket =
    let mine : list_any (is_out_with job) q.pending ≡ true = any_got (is_out_with job) q.pending place at.entry at.there at.out in
    let here : 1 ≤ count_by (has_ticket job.ticket) q.pending =
    omega (arith, count_any (is_out_with job) q.pending mine, count_le (is_out_with job) (has_ticket job.ticket) q.pending (out_named job)) in
    record {
      known = any_in (is_out_with job) qs n q g mine;
      back = phase_at next closed qs n q m job.ticket (is_out_with job) phase kept g (out_own job) here back;
      by_ticket = phase_at next closed qs n q m job.ticket (has_ticket job.ticket) phase kept g (ticket_own job.ticket) here by_ticket;
    }

-- one queue changed
pub one_changed : (next : ℕ) (closed : Bool) (qs : List QueueValue) (n : ℕ) (q m : QueueValue) (f : QueueValue → QueueValue)
    → slice_get qs n ≡ Some q → m ≡ f q
    → holding (set qs n m) next closed ≡ with_queue n f (holding qs next closed)
one_changed next closed qs n q m f g is = ap (λ (rs : List QueueValue). holding rs next closed) (ap (set qs n) is ∙ sym (change_set n f qs q g))

-- a record withdrawn, or not
pub withdraw_follows : {A : Type 0} (q m : QueueValue) (n : ℕ) (r : Result A WithdrawRefusal)
    → IfOk r (λ _. m ≡ withdrawn_at n q) → IfErr r (λ _. m ≡ q) → Follows q m
withdraw_follows q m n (Ok a) ok err = subst (Follows q) (sym ok) (follows_withdrawn n q)
withdraw_follows q m n (Err e) ok err = subst (Follows q) (sym err) (follows_same q)

pub withdraw_accepted : {A : Type 0} (next : ℕ) (closed : Bool) (qs : List QueueValue) (s n : ℕ) (q : QueueValue)
    (r : Result A WithdrawRefusal) → slice_get qs s ≡ Some q
    → IfOk r (λ _. withdraw_refusal_of (Some q) n ≡ None) → IfOk r (λ _. withdraw_refusal (holding qs next closed) s n ≡ None)
withdraw_accepted next closed qs s n q (Ok a) g ok = ap (λ o. withdraw_refusal_of o n) g ∙ ok
withdraw_accepted next closed qs s n q (Err e) g ok = tt

pub withdraw_refused : {A : Type 0} (next : ℕ) (closed : Bool) (qs : List QueueValue) (s n : ℕ) (q : QueueValue)
    (r : Result A WithdrawRefusal) → slice_get qs s ≡ Some q
    → IfErr r (λ e. withdraw_refusal_of (Some q) n ≡ Some e) → IfErr r (λ e. withdraw_refusal (holding qs next closed) s n ≡ Some e)
withdraw_refused next closed qs s n q (Ok a) g err = tt
withdraw_refused next closed qs s n q (Err e) g err = ap (λ o. withdraw_refusal_of o n) g ∙ err

pub withdraw_changed : {A : Type 0} (next : ℕ) (closed : Bool) (qs : List QueueValue) (s n : ℕ) (q m : QueueValue)
    (r : Result A WithdrawRefusal) → slice_get qs s ≡ Some q
    → IfOk r (λ _. m ≡ withdrawn_at n q) → IfOk r (λ _. holding (set qs s m) next closed ≡ after_withdraw (holding qs next closed) s n)
withdraw_changed next closed qs s n q m (Ok a) g ok = one_changed next closed qs s q m (withdrawn_at n) g ok
withdraw_changed next closed qs s n q m (Err e) g ok = tt

pub withdraw_unchanged : {A : Type 0} (next : ℕ) (closed : Bool) (qs : List QueueValue) (s : ℕ) (q m : QueueValue)
    (r : Result A WithdrawRefusal) → slice_get qs s ≡ Some q
    → IfErr r (λ _. m ≡ q) → IfErr r (λ _. holding (set qs s m) next closed ≡ holding qs next closed)
withdraw_unchanged next closed qs s q m (Ok a) g err = tt
withdraw_unchanged next closed qs s q m (Err e) g err = ap (λ (rs : List QueueValue). holding rs next closed) (ap (set qs s) err ∙ set_same s qs q g)

-- what follows for a job that is there
pub for_job : {P Q : Task → Type 0} (r : Option Task) → IfSome r P → ((job : Task) → P job → Q job) → IfSome r Q
for_job None h f = tt
for_job (Some job) h f = f job h

-- the queue in which a record is out
pub record FoundOut (task : Task) (place : ℕ) (qs : List QueueValue) (s : ℕ) (q : QueueValue) : Type 0 where
  pub there : slice_get qs s ≡ Some q
  pub here : IsOutAt task place q.pending

pub found_out : (task : Task) (place : ℕ) (qs : List QueueValue) (s : ℕ) (q : QueueValue) → IsOutIn task s place qs
    → q ≡ get_or qs s q → FoundOut task place qs s q
found_out task place qs s q at e =
    let there : slice_get qs s ≡ Some q = got qs s q (got_inside qs s at.queue at.there) e in
    let same : at.queue ≡ q = got_one at.queue q (sym at.there ∙ there) in
    record { there = there; here = subst (λ (k : QueueValue). IsOutAt task place k.pending) same at.here }

-- why a record is not refused
pub none_refuses : (next : ℕ) (qs : List QueueValue) (s : ℕ) (q : QueueValue) → slice_get qs s ≡ Some q
    → nat_le q.room (length q.pending) ≡ false → next ≢ 18446744073709551615
    → submit_refusal (holding qs next false) s ≡ None
none_refuses next qs s q g room few =
    let given : (next == 18446744073709551615) ≡ false = grind (arith, nat_tests, few) in
    rw (g, room, given) refl

-- why one is
pub refused_past : (next : ℕ) (closed : Bool) (qs : List QueueValue) (s : ℕ) → length qs ≤ s
    → submit_refusal (holding qs next closed) s ≡ Some refused.NoSuchSubmitter
refused_past next closed qs s past = ap (submit_refusal_by closed next) (got_past qs s past)

pub refused_closed : (next : ℕ) (qs : List QueueValue) (s : ℕ) → s < length qs
    → submit_refusal (holding qs next true) s ≡ Some refused.Closed
refused_closed next [] s inside = absurd (omega arith)
refused_closed next (q ∷ qs) zero inside = refl
refused_closed next (q ∷ qs) (suc s) inside = refused_closed next qs s (omega arith)

pub refused_full : (next : ℕ) (qs : List QueueValue) (s : ℕ) (q : QueueValue) → slice_get qs s ≡ Some q
    → nat_le q.room (length q.pending) ≡ true → submit_refusal (holding qs next false) s ≡ Some refused.Full
refused_full next qs s q g room = rw (g, room) refl

pub refused_last : (next : ℕ) (qs : List QueueValue) (s : ℕ) (q : QueueValue) → slice_get qs s ≡ Some q
    → nat_le q.room (length q.pending) ≡ false → next ≡ 18446744073709551615
    → submit_refusal (holding qs next false) s ≡ Some refused.Exhausted
refused_last next qs s q g room last = rw (last, g, room) refl

-- Where nothing is ready, nothing is collected.
pub stays_queue : (q : QueueValue) → ready_first q.pending ≡ None → collected q ≡ q
stays_queue q h = ap (λ o. collected_by o q) h

stays_all : (n : ℕ) (qs : List QueueValue) → ready_of (slice_get qs n) ≡ None → change_at n collected qs ≡ qs
stays_all zero [] h = refl
stays_all (suc n) [] h = refl
stays_all zero (q ∷ qs) h = ap (λ x. x ∷ qs) (stays_queue q h)
stays_all (suc n) (q ∷ qs) h = ap (λ l. q ∷ l) (stays_all n qs h)

is_none_ready : (o : Option EntryValue) → is_some o ≡ false → o ≡ None
is_none_ready None h = refl
is_none_ready (Some e) h = cc

pub none_collected : (c : Content) (n : ℕ) → is_some (ready c n) ≡ false → c ≡ after_collect c n
none_collected c n h = ap (λ (qs : List QueueValue). record { queues = qs; next = c.next; closed = c.closed })
    (sym (stays_all n c.queues (is_none_ready (ready c n) h)))

-- Where something is ready, there is the submitter.
pub ready_inside : (qs : List QueueValue) (n : ℕ) → is_some (ready_of (slice_get qs n)) ≡ true → n < length qs
ready_inside [] n h = cc
ready_inside (q ∷ qs) zero h = omega arith
ready_inside (q ∷ qs) (suc n) h = omega (arith, ready_inside qs n h)
