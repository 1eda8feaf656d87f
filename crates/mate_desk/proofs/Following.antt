-- What a desk keeps where one of its queues follows another.
use Rattle.std.proofs.Common.{◌≡◌, ℕ, zero, suc, ◌+◌, ◌-◌, ◌<◌, ◌≤◌, ◌==◌, nat_lt, List, [], ◌∷◌, ◌++◌}
use Rattle.std.proofs.Common.{length, map, set, replicate, Bool, true, false, if◌then◌else◌, ap, refl, subst}
use Rattle.std.proofs.Common.{arith, None, Some, slice_get, count_by, length-set, length-append}
use Rattle.std.proofs.lemmas.Bool.Decides.{nat_tests}
use Rattle.std.proofs.lemmas.List.{length-map}
use Rattle.chess_notation.specs.Records.{RecordValue}
use Rattle.mate_desk.specs.Content.{EntryValue, QueueValue, Phase, Waiting, has_ticket, is_ready}
use Rattle.mate_desk.specs.Calls.{change_at, in_queue, into_phase, with_entry, collected, collected_by, withdrawn, withdrawn_at}
use Rattle.mate_desk.specs.Refusals.{AreServed, IsRoom}
use Rattle.mate_desk.specs.Laws.{Rises, AreBelow, AreOrdered, IsOrdered, AreKept}
use Rattle.mate_desk.proofs.Changes.{got_one, rises_push, rises_lower}
use Rattle.mate_desk.proofs.Joined.{joined}
use Rattle.mate_desk.proofs.Distinct.{one_if, count_cons, count_append, count_joined, count_set}

each_set : {P : QueueValue → Type 0} (qs : List QueueValue) (n : ℕ) (r : QueueValue)
    → ((s : ℕ) (q : QueueValue) → slice_get qs s ≡ Some q → P q) → P r
    → (s : ℕ) (q : QueueValue) → slice_get (set qs n r) s ≡ Some q → P q
each_set [] n r each p s q g = cc
each_set {P} (k ∷ ks) zero r each p zero q g = subst P (got_one r q g) p
each_set (k ∷ ks) zero r each p (suc s) q g = each (suc s) q g
each_set (k ∷ ks) (suc n) r each p zero q g = each 0 q g
each_set (k ∷ ks) (suc n) r each p (suc s) q g = each_set ks n r (λ s q h. each (suc s) q h) p s q g

-- A queue that follows another has its entries, some of them changed under their tickets, or all but the first.
pub record Follows (q r : QueueValue) : Type 0 where
  pub room : r.room ≡ q.room
  pub fewer : length r.pending ≤ length q.pending
  pub counted : r.delivered + length r.pending ≡ q.delivered + length q.pending
  pub rises : Rises 0 q.pending → Rises 0 r.pending
  pub given : (next : ℕ) → AreBelow next q.pending → AreBelow next r.pending
  pub count : (ticket : ℕ) → count_by (has_ticket ticket) r.pending ≤ count_by (has_ticket ticket) q.pending

pub kept_follows : (next : ℕ) (qs : List QueueValue) (n : ℕ) (q r : QueueValue) → AreKept next qs → slice_get qs n ≡ Some q
    → Follows q r → AreKept next (set qs n r)
kept_follows next qs n q r kept g follows =
    let o : IsOrdered next q = kept.ordered n q g in
    record {
      served = rw (length-set qs n r) kept.served;
      distinct = λ ticket. omega (arith, count_set (has_ticket ticket) qs n q r g, follows.count ticket, kept.distinct ticket);
      ordered = each_set qs n r kept.ordered (record {
        rises = follows.rises o.rises;
        given = follows.given next o.given;
        room = rw follows.room o.room;
        fits = omega (arith, follows.fewer, follows.room, o.fits);
        counted = omega (arith, follows.counted, o.counted);
      });
    }

pub follows_same : (q : QueueValue) → Follows q q
follows_same q = record { room = refl; fewer = omega arith; counted = refl; rises = λ r. r; given = λ next b. b; count = λ ticket. omega arith }

-- entries changed under their tickets
abbrev pub KeepsTickets : (EntryValue → EntryValue) → Type 0
KeepsTickets f = (e : EntryValue) → (f e).ticket ≡ e.ticket

pub phase_keeps : (test : EntryValue → Bool) (phase : Phase) → KeepsTickets (into_phase test phase)
phase_keeps test phase e = elim (test e) as (λ b. (if b then record {
  ticket = e.ticket;
  asked = e.asked;
  phase = phase;
  withdrawn = e.withdrawn;
} else e).ticket ≡ e.ticket) [ true ↦ refl | false ↦ refl ]

rises_map : (low : ℕ) (f : EntryValue → EntryValue) (es : List EntryValue) → KeepsTickets f → Rises low es → Rises low (map f es)
rises_map low f [] keeps r = tt
rises_map low f (e ∷ es) keeps r = (omega (arith, keeps e, r.0), rw (keeps e) (rises_map (e.ticket + 1) f es keeps r.1))

below_map : (high : ℕ) (f : EntryValue → EntryValue) (es : List EntryValue) → KeepsTickets f → AreBelow high es → AreBelow high (map f es)
below_map high f [] keeps b = tt
below_map high f (e ∷ es) keeps b = (omega (arith, keeps e, b.0), below_map high f es keeps b.1)

count_map : (ticket : ℕ) (f : EntryValue → EntryValue) (es : List EntryValue) → KeepsTickets f
    → count_by (has_ticket ticket) (map f es) ≡ count_by (has_ticket ticket) es
count_map ticket f [] keeps = refl
count_map ticket f (e ∷ es) keeps =
    let here : one_if (has_ticket ticket (f e)) ≡ one_if (has_ticket ticket e) = ap (λ t. one_if (t == ticket)) (keeps e) in
    omega (arith, here, count_map ticket f es keeps, count_cons (has_ticket ticket) (f e) (map f es), count_cons (has_ticket ticket) e es)

pub follows_map : (f : EntryValue → EntryValue) (q : QueueValue) → KeepsTickets f → Follows q (in_queue f q)
follows_map f q keeps = record {
  room = refl;
  fewer = omega (arith, length-map q.pending f);
  counted = omega (arith, length-map q.pending f);
  rises = rises_map 0 f q.pending keeps;
  given = λ next. below_map next f q.pending keeps;
  count = λ ticket. omega (arith, count_map ticket f q.pending keeps);
}

-- one entry changed under its ticket
length_change : (n : ℕ) (f : EntryValue → EntryValue) (es : List EntryValue) → length (change_at n f es) ≡ length es
length_change n f [] = refl
length_change zero f (e ∷ es) = refl
length_change (suc n) f (e ∷ es) = ap suc (length_change n f es)

rises_change : (low n : ℕ) (f : EntryValue → EntryValue) (es : List EntryValue) → KeepsTickets f → Rises low es → Rises low (change_at n f es)
rises_change low n f [] keeps r = tt
rises_change low zero f (e ∷ es) keeps r = (omega (arith, keeps e, r.0), rw (keeps e) r.1)
rises_change low (suc n) f (e ∷ es) keeps r = (r.0, rises_change (e.ticket + 1) n f es keeps r.1)

below_change : (high n : ℕ) (f : EntryValue → EntryValue) (es : List EntryValue) → KeepsTickets f
    → AreBelow high es → AreBelow high (change_at n f es)
below_change high n f [] keeps b = tt
below_change high zero f (e ∷ es) keeps b = (omega (arith, keeps e, b.0), b.1)
below_change high (suc n) f (e ∷ es) keeps b = (b.0, below_change high n f es keeps b.1)

count_change : (ticket n : ℕ) (f : EntryValue → EntryValue) (es : List EntryValue) → KeepsTickets f
    → count_by (has_ticket ticket) (change_at n f es) ≡ count_by (has_ticket ticket) es
count_change ticket n f [] keeps = refl
count_change ticket zero f (e ∷ es) keeps =
    let here : one_if (has_ticket ticket (f e)) ≡ one_if (has_ticket ticket e) = ap (λ t. one_if (t == ticket)) (keeps e) in
    omega (arith, here, count_cons (has_ticket ticket) (f e) es, count_cons (has_ticket ticket) e es)
count_change ticket (suc n) f (e ∷ es) keeps = omega (
  arith,
  count_change ticket n f es keeps,
  count_cons (has_ticket ticket) e (change_at n f es),
  count_cons (has_ticket ticket) e es,
)

pub follows_withdrawn : (n : ℕ) (q : QueueValue) → Follows q (withdrawn_at n q)
follows_withdrawn n q = elim (nat_lt n q.delivered) as (λ b. Follows q (if b then q
    else record { room = q.room; delivered = q.delivered; pending = change_at (n - q.delivered) withdrawn q.pending })) [
      | true ↦ follows_same q
      | false ↦ record {
        room = refl;
        fewer = omega (arith, length_change (n - q.delivered) withdrawn q.pending);
        counted = omega (arith, length_change (n - q.delivered) withdrawn q.pending);
        rises = rises_change 0 (n - q.delivered) withdrawn q.pending (λ e. refl);
        given = λ next. below_change next (n - q.delivered) withdrawn q.pending (λ e. refl);
        count = λ ticket. omega (arith, count_change ticket (n - q.delivered) withdrawn q.pending (λ e. refl));
      }
    ]

-- the first entry gone
follows_rest : (room delivered : ℕ) (e : EntryValue) (es : List EntryValue)
    → Follows (record { room = room; delivered = delivered; pending = e ∷ es }) (record { room = room; delivered = delivered + 1; pending = es })
follows_rest room delivered e es = record {
  room = refl;
  fewer = omega arith;
  counted = omega arith;
  rises = λ r. rises_lower (e.ticket + 1) 0 es r.1 (omega arith);
  given = λ next b. b.1;
  count = λ ticket. omega (arith, count_cons (has_ticket ticket) e es);
}

follows_parts : (room delivered : ℕ) (es : List EntryValue) → Follows (record {
  room = room;
  delivered = delivered;
  pending = es;
}) (collected (record { room = room; delivered = delivered; pending = es }))
follows_parts room delivered [] = follows_same (record { room = room; delivered = delivered; pending = [] })
follows_parts room delivered (e ∷ es) =
    let q : QueueValue = record { room = room; delivered = delivered; pending = e ∷ es } in
    elim (is_ready e) as (λ b. Follows q (collected_by (if b then Some e else None) q)) [
      | true ↦ follows_rest room delivered e es
      | false ↦ follows_same q
    ]

pub follows_collected : (q : QueueValue) → Follows q (collected q)
follows_collected q = follows_parts q.room q.delivered q.pending

-- an entry more, under the next ticket
below_more : (high : ℕ) (es : List EntryValue) → AreBelow high es → AreBelow (high + 1) es
below_more high [] b = tt
below_more high (e ∷ es) b = (omega (arith, b.0), below_more high es b.1)

below_push : (high : ℕ) (es : List EntryValue) (e : EntryValue) → AreBelow high es → e.ticket < high → AreBelow high (es ++ e ∷ [])
below_push high [] e b h = (h, tt)
below_push high (x ∷ xs) e b h = (b.0, below_push high xs e b.1 h)

none_given : (next : ℕ) (es : List EntryValue) → AreBelow next es → count_by (has_ticket next) es ≡ 0
none_given next [] b = refl
none_given next (e ∷ es) b =
    let other : (e.ticket == next) ≡ false = grind (arith, nat_tests, b.0) in
    let here : one_if (has_ticket next e) ≡ 0 = rw other refl in
    omega (arith, here, none_given next es b.1, count_cons (has_ticket next) e es)

none_pending : (next : ℕ) (qs : List QueueValue) → AreOrdered next qs → count_by (has_ticket next) (joined qs) ≡ 0
none_pending next [] o = refl
none_pending next (q ∷ qs) o =
    omega (arith, none_given next q.pending (o 0 q refl).given, none_pending next qs (λ s r g. o (suc s) r g), count_joined (has_ticket next) q qs)

one_more : (next ticket : ℕ) (before after whole : ℕ) → whole ≤ 1 → (ticket ≡ next → whole ≡ 0) → after ≡ whole + one_if (next == ticket) → after ≤ 1
one_more next ticket before after whole few none is = (elim (next == ticket) as (λ b. (next == ticket) ≡ b → after ≡ whole + one_if b → after ≤ 1) [
  | true ↦ λ t e. let same : ticket ≡ next = grind (arith, nat_tests, t) in omega (arith, none same, e)
  | false ↦ λ t e. omega (arith, few, e)
]) refl is

pub kept_submit : (next : ℕ) (qs : List QueueValue) (n : ℕ) (q : QueueValue) (asked : RecordValue) → AreKept next qs
    → slice_get qs n ≡ Some q → length q.pending < q.room
    → AreKept (next + 1) (set qs n (with_entry next asked q))
kept_submit next qs n q asked kept g room =
    let e : EntryValue = record { ticket = next; asked = asked; phase = Waiting; withdrawn = false } in
    let r : QueueValue = with_entry next asked q in
    let o : IsOrdered next q = kept.ordered n q g in
    let long : length (q.pending ++ e ∷ []) ≡ length q.pending + 1 = length-append q.pending (e ∷ []) in
    record {
      served = rw (length-set qs n r) kept.served;
      distinct = λ ticket.
          let mine : count_by (has_ticket ticket) r.pending ≡ count_by (has_ticket ticket) q.pending + one_if (next == ticket) =
          omega (arith, count_append (has_ticket ticket) q.pending (e ∷ []), count_cons (has_ticket ticket) e []) in
          one_more next ticket 0 (count_by (has_ticket ticket) (joined (set qs n r)))
          (count_by (has_ticket ticket) (joined qs)) (kept.distinct ticket)
          (λ same. rw same (none_pending next qs kept.ordered)) (omega (arith, count_set (has_ticket ticket) qs n q r g, mine));
      ordered = each_set qs n r (λ s k h. more k (kept.ordered s k h)) (record {
        rises = rises_push 0 q.pending e o.rises o.given (omega arith);
        given = below_push (next + 1) q.pending e (below_more next q.pending o.given) (omega arith);
        room = o.room;
        fits = omega (arith, long, room);
        counted = omega (arith, long, o.counted);
      });
    }
  where
    more : (k : QueueValue) → IsOrdered next k → IsOrdered (next + 1) k
    more k o = record { rises = o.rises; given = below_more next k.pending o.given; room = o.room; fits = o.fits; counted = omega (arith, o.counted) }

-- the queues of a new desk
none_new : (ticket n room : ℕ) → count_by (has_ticket ticket) (joined (replicate n (record { room = room; delivered = 0; pending = [] }))) ≡ 0
none_new ticket zero room = refl
none_new ticket (suc n) room = none_new ticket n room

ordered_new : (next n room : ℕ) → IsRoom room → AreOrdered next (replicate n (record { room = room; delivered = 0; pending = [] }))
ordered_new next zero room h s q g = cc
ordered_new next (suc n) room h zero q g =
    let first : QueueValue = record { room = room; delivered = 0; pending = [] } in
    let same : first ≡ q = got_one first q g in
    subst (IsOrdered next) same (record { rises = tt; given = tt; room = h; fits = omega arith; counted = omega arith })
ordered_new next (suc n) room h (suc s) q g = ordered_new next n room h s q g

length_new : (n : ℕ) (q : QueueValue) → length (replicate n q) ≡ n
length_new zero q = refl
length_new (suc n) q = ap suc (length_new n q)

pub kept_new : (next n room : ℕ) → AreServed n → IsRoom room → AreKept next (replicate n (record { room = room; delivered = 0; pending = [] }))
kept_new next n room served h =
    let first : QueueValue = record { room = room; delivered = 0; pending = [] } in
    record {
      served = rw (length_new n first) served;
      distinct = λ ticket. omega (arith, none_new ticket n room);
      ordered = ordered_new next n room h;
    }
