-- Runs of events, one after the other.
use Rattle.std.proofs.Common.{◌≡◌, ℕ, ◌+◌, Bool, List, [], ◌∷◌, ◌++◌, refl, ap, subst, arith, length-append}
use Rattle.mate_jobs.specs.Jobs.{Task}
use Rattle.mate_jobs.specs.declared.deliveries.Delivery.{Delivery}
use Rattle.desk_room.specs.Events.{RoomLists, Event, Takes, Gives, Orders, Hears, May, after, Leads, AllOf, tally, is_heard, is_taken}
use Rattle.desk_room.specs.Events.{is_ordered, is_given, accepted_by, byes_by, withdrawn_by, solved_by, returned_by, strangers_by}
use Rattle.desk_room.specs.Passes.{Taking, Giving, Ordering, Hearing}
use Rattle.room_ends.specs.declared.letters.Letter.{Letter}
use Rattle.room_ends.specs.declared.letters.Back.{Back}

pub leads_then : (es fs : List Event) (s t u : RoomLists) → Leads es s t → Leads fs t u → Leads (es ++ fs) s u
leads_then [] fs s t u r q = subst (λ (v : RoomLists). Leads fs v u) r q
leads_then (e ∷ es) fs s t u r q = (r.0, leads_then es fs (after e s) t u r.1 q)

pub all_then : (kind : Event → Bool) (es fs : List Event) → AllOf kind es → AllOf kind fs → AllOf kind (es ++ fs)
all_then kind [] fs a b = b
all_then kind (e ∷ es) fs a b = (a.0, all_then kind es fs a.1 b)

pub tally_then : (f : Event → RoomLists → ℕ) (es fs : List Event) (s t : RoomLists) → Leads es s t
    → tally f (es ++ fs) s ≡ tally f es s + tally f fs t
tally_then f [] fs s t r = omega (arith, ap (tally f fs) r)
tally_then f (e ∷ es) fs s t r = omega (arith, tally_then f es fs (after e s) t r.1)

pub taking_none : (s : RoomLists) → Taking s s 0 0 0
taking_none s = record { events = []; kind = tt; leads = refl; accepted_counted = refl; byes_counted = refl; withdrawn_counted = refl }

pub taking_one : (s t : RoomLists) (n : ℕ) (x : Letter) (a b w : ℕ) → May (Takes n x) s → t ≡ after (Takes n x) s
    → a ≡ accepted_by (Takes n x) s → b ≡ byes_by (Takes n x) s → w ≡ withdrawn_by (Takes n x) s → Taking s t a b w
taking_one s t n x a b w m e p q r = record {
  events = Takes n x ∷ [];
  kind = (refl, tt);
  leads = (m, e);
  accepted_counted = omega (arith, p);
  byes_counted = omega (arith, q);
  withdrawn_counted = omega (arith, r);
}

pub taking_then : (s t u : RoomLists) (a b c d e f : ℕ) → Taking s t a b c → Taking t u d e f → Taking s u (a + d) (b + e) (c + f)
taking_then s t u a b c d e f p q = record {
  events = p.events ++ q.events;
  kind = all_then is_taken p.events q.events p.kind q.kind;
  leads = leads_then p.events q.events s t u p.leads q.leads;
  accepted_counted = omega (arith, p.accepted_counted, q.accepted_counted, tally_then accepted_by p.events q.events s t p.leads);
  byes_counted = omega (arith, p.byes_counted, q.byes_counted, tally_then byes_by p.events q.events s t p.leads);
  withdrawn_counted = omega (arith, p.withdrawn_counted, q.withdrawn_counted, tally_then withdrawn_by p.events q.events s t p.leads);
}

pub giving_none : (s : RoomLists) → Giving s s 0
giving_none s = record { events = []; kind = tt; leads = refl; counted = refl }

pub giving_one : (s t : RoomLists) (n : ℕ) (d : Delivery) → May (Gives n d) s → t ≡ after (Gives n d) s → Giving s t 1
giving_one s t n d m e = record { events = Gives n d ∷ []; kind = (refl, tt); leads = (m, e); counted = refl }

pub giving_same : (s t : RoomLists) → t ≡ s → Giving s t 0
giving_same s t e = record { events = []; kind = tt; leads = e; counted = refl }

pub giving_then : (s t u : RoomLists) (a b : ℕ) → Giving s t a → Giving t u b → Giving s u (a + b)
giving_then s t u a b p q = record {
  events = p.events ++ q.events;
  kind = all_then is_given p.events q.events p.kind q.kind;
  leads = leads_then p.events q.events s t u p.leads q.leads;
  counted = omega (arith, p.counted, q.counted, length-append p.events q.events);
}

pub ordering_none : (s : RoomLists) → Ordering s s 0
ordering_none s = record { events = []; kind = tt; leads = refl; counted = refl }

pub ordering_one : (s t : RoomLists) (job : Task) → May (Orders job) s → t ≡ after (Orders job) s → Ordering s t 1
ordering_one s t job m e = record { events = Orders job ∷ []; kind = (refl, tt); leads = (m, e); counted = refl }

pub ordering_then : (s t u : RoomLists) (a b : ℕ) → Ordering s t a → Ordering t u b → Ordering s u (a + b)
ordering_then s t u a b p q = record {
  events = p.events ++ q.events;
  kind = all_then is_ordered p.events q.events p.kind q.kind;
  leads = leads_then p.events q.events s t u p.leads q.leads;
  counted = omega (arith, p.counted, q.counted, length-append p.events q.events);
}

pub hearing_none : (s : RoomLists) → Hearing s s 0 0 0
hearing_none s = record { events = []; kind = tt; leads = refl; solved_counted = refl; returned_counted = refl; strangers_counted = refl }

pub hearing_one : (s t : RoomLists) (b : ℕ) (x : Back) (n m k : ℕ) → May (Hears b x) s → t ≡ after (Hears b x) s
    → n ≡ solved_by (Hears b x) s → m ≡ returned_by (Hears b x) s → k ≡ strangers_by (Hears b x) s → Hearing s t n m k
hearing_one s t b x n m k may e p q r = record {
  events = Hears b x ∷ [];
  kind = (refl, tt);
  leads = (may, e);
  solved_counted = omega (arith, p);
  returned_counted = omega (arith, q);
  strangers_counted = omega (arith, r);
}

pub hearing_then : (s t u : RoomLists) (a b c d e f : ℕ) → Hearing s t a b c → Hearing t u d e f → Hearing s u (a + d) (b + e) (c + f)
hearing_then s t u a b c d e f p q = record {
  events = p.events ++ q.events;
  kind = all_then is_heard p.events q.events p.kind q.kind;
  leads = leads_then p.events q.events s t u p.leads q.leads;
  solved_counted = omega (arith, p.solved_counted, q.solved_counted, tally_then solved_by p.events q.events s t p.leads);
  returned_counted = omega (arith, p.returned_counted, q.returned_counted, tally_then returned_by p.events q.events s t p.leads);
  strangers_counted = omega (arith, p.strangers_counted, q.strangers_counted, tally_then strangers_by p.events q.events s t p.leads);
}
