-- Tickets that are distinct: how often one is pending, and what is changed where it is.
use Rattle.std.proofs.Common.{◌≡◌, ◌≢◌, ℕ, zero, suc, ◌+◌, ◌≤◌, ◌==◌, List, [], ◌∷◌, ◌++◌, map, set, Bool}
use Rattle.std.proofs.Common.{true, false, ◌||◌, cond, ap, refl, subst, arith, Some, slice_get, count_by}
use Rattle.std.specs.List.{list_any}
use Rattle.std.proofs.lemmas.Bool.Decides.{nat_tests}
use Rattle.std.proofs.lemmas.List.Sums.{sum_by-cons, sum_by-append}
use Rattle.mate_desk.specs.Content.{EntryValue, QueueValue, has_ticket}
use Rattle.mate_desk.specs.Calls.{in_queue}
use Rattle.mate_desk.proofs.Changes.{got_one}
use Rattle.mate_desk.proofs.Joined.{joined}

-- 1 for a test that is passed
abbrev pub one_if : Bool → ℕ
one_if b = cond b 1 0

pub count_cons : (test : EntryValue → Bool) (e : EntryValue) (es : List EntryValue) → count_by test (e ∷ es) ≡ one_if (test e) + count_by test es
count_cons test e es = sum_by-cons (λ x. cond (test x) 1 0) e es

pub count_append : (test : EntryValue → Bool) (es fs : List EntryValue) → count_by test (es ++ fs) ≡ count_by test es + count_by test fs
count_append test es fs = sum_by-append (λ x. cond (test x) 1 0) es fs

pub count_joined : (test : EntryValue → Bool) (q : QueueValue) (qs : List QueueValue)
    → count_by test (joined (q ∷ qs)) ≡ count_by test q.pending + count_by test (joined qs)
count_joined test q qs = count_append test q.pending (joined qs)

-- one queue in place of another
pub count_set : (test : EntryValue → Bool) (qs : List QueueValue) (n : ℕ) (q r : QueueValue) → slice_get qs n ≡ Some q
    → count_by test (joined (set qs n r)) + count_by test q.pending ≡ count_by test (joined qs) + count_by test r.pending
count_set test [] n q r g = cc
count_set test (p ∷ ps) zero q r g =
    let here : count_by test p.pending ≡ count_by test q.pending = ap (λ (k : QueueValue). count_by test k.pending) (got_one p q g) in
    omega (arith, here, count_joined test r ps, count_joined test p ps)
count_set test (p ∷ ps) (suc n) q r g = omega (arith, count_set test ps n q r g, count_joined test p (set ps n r), count_joined test p ps)

pub count_at : (test : EntryValue → Bool) (qs : List QueueValue) (n : ℕ) (q : QueueValue) → slice_get qs n ≡ Some q
    → count_by test q.pending ≤ count_by test (joined qs)
count_at test [] n q g = cc
count_at test (p ∷ ps) zero q g =
    let here : count_by test p.pending ≡ count_by test q.pending = ap (λ (k : QueueValue). count_by test k.pending) (got_one p q g) in
    omega (arith, here, count_joined test p ps)
count_at test (p ∷ ps) (suc n) q g = omega (arith, count_at test ps n q g, count_joined test p ps)

pub count_any : (test : EntryValue → Bool) (es : List EntryValue) → list_any test es ≡ true → 1 ≤ count_by test es
count_any test [] t = cc
count_any test (e ∷ es) t = (elim (test e) as (λ b. test e ≡ b → (b || list_any test es) ≡ true → 1 ≤ count_by test (e ∷ es)) [
  | true ↦ λ h t. let one : one_if (test e) ≡ 1 = rw h refl in omega (arith, one, count_cons test e es)
  | false ↦ λ h t. omega (arith, count_any test es t, count_cons test e es)
]) refl t

-- What passes the one test passes the other.
abbrev pub Implies : (EntryValue → Bool) → (EntryValue → Bool) → Type 0
Implies test other = (e : EntryValue) → test e ≡ true → other e ≡ true

number_le : (a b : Bool) → (a ≡ true → b ≡ true) → one_if a ≤ one_if b
number_le true b h = let t = h refl in rw t (omega arith)
number_le false b h = omega arith

pub count_le : (test other : EntryValue → Bool) (es : List EntryValue) → Implies test other → count_by test es ≤ count_by other es
count_le test other [] h = omega arith
count_le test other (e ∷ es) h =
    omega (arith, count_le test other es h, number_le (test e) (other e) (h e), count_cons test e es, count_cons other e es)

-- Two tests that nothing passes both, and that only what passes a third does.
number_apart : (a b c : Bool) → (a ≡ true → b ≡ false) → (a ≡ true → c ≡ true) → (b ≡ true → c ≡ true) → one_if a + one_if b ≤ one_if c
number_apart true b c apart h k = let t = h refl in let f = apart refl in rw (t, f) (omega arith)
number_apart false true c apart h k = let t = k refl in rw t (omega arith)
number_apart false false c apart h k = omega arith

pub count_apart : (test other whole : EntryValue → Bool) (es : List EntryValue)
    → ((e : EntryValue) → test e ≡ true → other e ≡ false) → Implies test whole → Implies other whole
    → count_by test es + count_by other es ≤ count_by whole es
count_apart test other whole [] apart h k = omega arith
count_apart test other whole (e ∷ es) apart h k =
    omega (
      arith,
      count_apart test other whole es apart h k,
      number_apart (test e) (other e) (whole e) (apart e) (h e) (k e),
      count_cons test e es,
      count_cons other e es,
      count_cons whole e es,
    )

-- A change that leaves all other tickets alone changes nothing where its ticket is not pending.
one_named : (e : EntryValue) → one_if (has_ticket e.ticket e) ≡ 1
one_named e = let t : (e.ticket == e.ticket) ≡ true = grind (arith, nat_tests) in rw t refl

other_ticket : (ticket : ℕ) (e : EntryValue) → one_if (has_ticket ticket e) ≡ 0 → e.ticket ≢ ticket
other_ticket ticket e h same = let one : one_if (has_ticket ticket e) ≡ 1 =
    subst (λ t. one_if (has_ticket t e) ≡ 1) same (one_named e) in omega (arith, h, one)

map_none : (ticket : ℕ) (f : EntryValue → EntryValue) (es : List EntryValue) → ((e : EntryValue) → e.ticket ≢ ticket → f e ≡ e)
    → count_by (has_ticket ticket) es ≡ 0 → map f es ≡ es
map_none ticket f [] others none = refl
map_none ticket f (e ∷ es) others none =
    let both = count_cons (has_ticket ticket) e es in
    let here : f e ≡ e = others e (other_ticket ticket e (omega (arith, both, none))) in
    let rest : map f es ≡ es = map_none ticket f es others (omega (arith, both, none)) in
    cc

queue_none : (ticket : ℕ) (f : EntryValue → EntryValue) (q : QueueValue) → ((e : EntryValue) → e.ticket ≢ ticket → f e ≡ e)
    → count_by (has_ticket ticket) q.pending ≡ 0 → in_queue f q ≡ q
queue_none ticket f q others none = ap (λ (es : List EntryValue). record { room = q.room; delivered = q.delivered; pending = es })
    (map_none ticket f q.pending others none)

queues_none : (ticket : ℕ) (f : EntryValue → EntryValue) (qs : List QueueValue) → ((e : EntryValue) → e.ticket ≢ ticket → f e ≡ e)
    → count_by (has_ticket ticket) (joined qs) ≡ 0 → map (in_queue f) qs ≡ qs
queues_none ticket f [] others none = refl
queues_none ticket f (q ∷ qs) others none =
    let both = count_joined (has_ticket ticket) q qs in
    let here : in_queue f q ≡ q = queue_none ticket f q others (omega (arith, both, none)) in
    let rest : map (in_queue f) qs ≡ qs = queues_none ticket f qs others (omega (arith, both, none)) in
    cc

-- Where its ticket is pending in one queue, and once at most, it is a change of that queue.
pub queues_at : (ticket : ℕ) (f : EntryValue → EntryValue) (qs : List QueueValue) (n : ℕ) (q : QueueValue)
    → ((e : EntryValue) → e.ticket ≢ ticket → f e ≡ e) → slice_get qs n ≡ Some q
    → 1 ≤ count_by (has_ticket ticket) q.pending → count_by (has_ticket ticket) (joined qs) ≤ 1 → set qs n (in_queue f q) ≡ map (in_queue f) qs
queues_at ticket f [] n q others g some one = cc
queues_at ticket f (p ∷ ps) zero q others g some one =
    let same : p ≡ q = got_one p q g in
    let both = count_joined (has_ticket ticket) p ps in
    let mine : count_by (has_ticket ticket) p.pending ≡ count_by (has_ticket ticket) q.pending =
    ap (λ (k : QueueValue). count_by (has_ticket ticket) k.pending) same in
    let rest : map (in_queue f) ps ≡ ps = queues_none ticket f ps others (omega (arith, both, mine, some, one)) in
    let here : in_queue f p ≡ in_queue f q = ap (in_queue f) same in
    cc
queues_at ticket f (p ∷ ps) (suc n) q others g some one =
    let both = count_joined (has_ticket ticket) p ps in
    let there = count_at (has_ticket ticket) ps n q g in
    let here : in_queue f p ≡ p = queue_none ticket f p others (omega (arith, both, there, some, one)) in
    let rest = queues_at ticket f ps n q others g some (omega (arith, both, one)) in
    cc
