-- A list of entries with one of them changed.
use Rattle.std.proofs.Common.{◌≡◌, ◌≢◌, ℕ, zero, suc, ◌+◌, ◌<◌, ◌≤◌, List, [], ◌∷◌, ◌++◌, length, map, get_or}
use Rattle.std.proofs.Common.{set, Bool, true, false, ◌&&◌, ap, refl, sym, ◌∙◌, arith, None, Some, slice_get}
use Rattle.std.proofs.lemmas.Bool.Decides.{nat_tests}
use Rattle.std.proofs.lemmas.Option.{slice_get-get_or}
use Rattle.mate_jobs.specs.Jobs.{Task}
use Rattle.mate_desk.specs.Content.{EntryValue, QueueValue, Phase, is_out, waits, has_ticket, has_task, waits_as, is_out_with}
use Rattle.mate_desk.specs.Calls.{change_at, into_phase, in_queue}
use Rattle.mate_desk.specs.Laws.{Rises, AreBelow}
use Rattle.mate_desk.proofs.Tests.{and_tells, and_fails, equal_tells}

-- what is read at a place
pub got : {A : Type 0} (xs : List A) (n : ℕ) (x : A) → n < length xs → x ≡ get_or xs n x → slice_get xs n ≡ Some x
got xs n x h e = slice_get-get_or xs n x h ∙ ap Some (sym e)

pub got_inside : {A : Type 0} (xs : List A) (n : ℕ) (x : A) → slice_get xs n ≡ Some x → n < length xs
got_inside [] n x e = cc
got_inside (y ∷ ys) zero x e = omega arith
got_inside (y ∷ ys) (suc n) x e = omega (arith, got_inside ys n x e)

pub got_past : {A : Type 0} (xs : List A) (n : ℕ) → length xs ≤ n → slice_get xs n ≡ None
got_past [] n h = refl
got_past (x ∷ xs) zero h = absurd (omega arith)
got_past (x ∷ xs) (suc n) h = got_past xs n (omega arith)

pub got_one : {A : Type 0} (x y : A) → Some x ≡ Some y → x ≡ y
got_one x y e = cc

pub change_set : {A : Type 0} (n : ℕ) (f : A → A) (xs : List A) (x : A) → slice_get xs n ≡ Some x → change_at n f xs ≡ set xs n (f x)
change_set n f [] x e = cc
change_set zero f (y ∷ ys) x e = ap (λ z. f z ∷ ys) (got_one y x e)
change_set (suc n) f (y ∷ ys) x e = ap (λ zs. y ∷ zs) (change_set n f ys x e)

pub set_same : {A : Type 0} (n : ℕ) (xs : List A) (x : A) → slice_get xs n ≡ Some x → set xs n x ≡ xs
set_same n [] x e = cc
set_same zero (y ∷ ys) x e = ap (λ z. z ∷ ys) (sym (got_one y x e))
set_same (suc n) (y ∷ ys) x e = ap (λ zs. y ∷ zs) (set_same n ys x e)

pub got_set : {A : Type 0} (n : ℕ) (xs : List A) (x y : A) → slice_get xs n ≡ Some x → slice_get (set xs n y) n ≡ Some y
got_set n [] x y e = cc
got_set zero (z ∷ zs) x y e = refl
got_set (suc n) (z ∷ zs) x y e = got_set n zs x y e

-- rising tickets
pub rises_push : (low : ℕ) (es : List EntryValue) (e : EntryValue) → Rises low es → AreBelow e.ticket es → low ≤ e.ticket → Rises low (es ++ e ∷ [])
rises_push low [] e r b h = (h, tt)
rises_push low (x ∷ xs) e r b h = (r.0, rises_push (x.ticket + 1) xs e r.1 b.1 (omega arith))

pub rises_lower : (low lower : ℕ) (es : List EntryValue) → Rises low es → lower ≤ low → Rises lower es
rises_lower low lower [] r h = tt
rises_lower low lower (x ∷ xs) r h = (omega (arith, r.0), r.1)

pub rises_at : (low : ℕ) (es : List EntryValue) (n : ℕ) (e : EntryValue) → Rises low es → slice_get es n ≡ Some e → low ≤ e.ticket
rises_at low [] n e r g = cc
rises_at low (x ∷ xs) zero e r g = omega (arith, ap (λ (z : EntryValue). z.ticket) (got_one x e g), r.0)
rises_at low (x ∷ xs) (suc n) e r g = omega (arith, rises_at (x.ticket + 1) xs n e r.1 g, r.0)

pub rises_set : (low : ℕ) (es : List EntryValue) (n : ℕ) (e y : EntryValue) → Rises low es → slice_get es n ≡ Some e
    → y.ticket ≡ e.ticket → Rises low (set es n y)
rises_set low [] n e y r g t = cc
rises_set low (x ∷ xs) zero e y r g t = let q : y.ticket ≡ x.ticket =
    t ∙ ap (λ (z : EntryValue). z.ticket) (sym (got_one x e g)) in (omega (arith, q, r.0), rw q r.1)
rises_set low (x ∷ xs) (suc n) e y r g t = (r.0, rises_set (x.ticket + 1) xs n e y r.1 g t)

-- A change that leaves all other tickets alone is one at the place of its ticket.
map_below : (low ticket : ℕ) (f : EntryValue → EntryValue) (es : List EntryValue)
    → ((x : EntryValue) → x.ticket ≢ ticket → f x ≡ x) → Rises low es → ticket < low → map f es ≡ es
map_below low ticket f [] others r h = refl
map_below low ticket f (x ∷ xs) others r h =
    let here = others x (λ p. omega (arith, p, r.0)) in
    let rest = map_below (x.ticket + 1) ticket f xs others r.1 (omega (arith, r.0)) in
    cc

pub map_at : (low : ℕ) (f : EntryValue → EntryValue) (es : List EntryValue) (n : ℕ) (e : EntryValue)
    → ((x : EntryValue) → x.ticket ≢ e.ticket → f x ≡ x) → Rises low es → slice_get es n ≡ Some e → map f es ≡ set es n (f e)
map_at low f [] n e others r g = cc
map_at low f (x ∷ xs) zero e others r g =
    let q : x ≡ e = got_one x e g in
    let rest : map f xs ≡ xs = map_below (x.ticket + 1) e.ticket f xs others r.1 (omega (arith, ap (λ (z : EntryValue). z.ticket) q)) in
    let here : f x ≡ f e = ap f q in
    cc
map_at low f (x ∷ xs) (suc n) e others r g =
    let above = rises_at (x.ticket + 1) xs n e r.1 g in
    let here : f x ≡ x = others x (λ p. omega (arith, p, above)) in
    let rest = map_at (x.ticket + 1) f xs n e others r.1 g in
    cc

-- Tests that ask for a ticket fail of every other.
abbrev pub OfTicket : ℕ → (EntryValue → Bool) → Type 0
OfTicket ticket test = (x : EntryValue) → x.ticket ≢ ticket → test x ≡ false

pub ticket_own : (ticket : ℕ) → OfTicket ticket (has_ticket ticket)
ticket_own ticket x n = grind (arith, nat_tests, n)

task_own : (task : Task) (x : EntryValue) → x.ticket ≢ task.ticket → has_task task x ≡ false
task_own task x n = and_fails _ _ (ticket_own task.ticket x n)

and_last_fails : (a b : Bool) → b ≡ false → (a && b) ≡ false
and_last_fails true b e = e
and_last_fails false b e = refl

pub waits_own : (task : Task) → OfTicket task.ticket (waits_as task)
waits_own task x n = and_last_fails (waits x) _ (task_own task x n)

pub out_own : (task : Task) → OfTicket task.ticket (is_out_with task)
out_own task x n = and_last_fails (is_out x.phase) _ (task_own task x n)

pub phase_other : (ticket : ℕ) (test : EntryValue → Bool) (phase : Phase) → OfTicket ticket test → (x : EntryValue)
    → x.ticket ≢ ticket → into_phase test phase x ≡ x
phase_other ticket test phase own x n = rw (own x n) refl

-- what the tests of a job say
pub record Told (task : Task) (e : EntryValue) : Type 0 where
  pub ticket : e.ticket ≡ task.ticket
  pub named : has_ticket task.ticket e ≡ true

pub told : (task : Task) (e : EntryValue) → has_task task e ≡ true → Told task e
told task e h = let both = and_tells (has_ticket task.ticket e) _ h in record { ticket = equal_tells _ _ both.0; named = both.0 }

-- An entry that comes into a phase at its place is what passes the test everywhere in its queue.
pub comes_in : (q : QueueValue) (n : ℕ) (e y : EntryValue) (test : EntryValue → Bool) (phase : Phase) → Rises 0 q.pending
    → slice_get q.pending n ≡ Some e → test e ≡ true → OfTicket e.ticket test
    → y ≡ record { ticket = e.ticket; asked = e.asked; phase = phase; withdrawn = e.withdrawn }
    → record { room = q.room; delivered = q.delivered; pending = set q.pending n y } ≡ in_queue (into_phase test phase) q
comes_in q n e y test phase r g t own is =
    let all : map (into_phase test phase) q.pending ≡ set q.pending n (into_phase test phase e) =
    map_at 0 (into_phase test phase) q.pending n e (phase_other e.ticket test phase own) r g in
    let here : into_phase test phase e ≡ y = rw t (sym is) in
    ap (λ (es : List EntryValue). record { room = q.room; delivered = q.delivered; pending = es }) (sym (all ∙ ap (set q.pending n) here))

-- What was put at a place is read there.
pub read_set : {A : Type 0} (n : ℕ) (xs : List A) (x y z : A) → slice_get xs n ≡ Some x → z ≡ get_or (set xs n y) n z → y ≡ z
read_set n xs x y z g e =
    let there = got_set n xs x y g in
    got_one y z (sym there ∙ got (set xs n y) n z (got_inside (set xs n y) n y there) e)
