-- The letters of the windows: what was taken and is known only grows, and a window that was read stays so.
use Rattle.std.proofs.Common.{◌≡◌, ◌≢◌, ◌<◌, ◌≤◌, ◌⊎◌, inl, inr, ⊎_elim, true≢false, ℕ, zero, suc, ◌+◌, ◌-◌, ◌^◌, ◌==◌, Bool, true}
use Rattle.std.proofs.Common.{false, nat_lt, nat_le, if◌then◌else◌, List, [], ◌∷◌, ◌++◌, length, map, set, get_or, slice_get, is_none}
use Rattle.std.proofs.Common.{Option, Some, None, refl, sym, ap, ◌∙◌, subst, arith, append_assoc, length-append}
use mathlib.Core.List.{IsPrefix}
use Rattle.std.proofs.lemmas.Bool.Decides.{nat_tests}
use Rattle.chess_notation.specs.Records.{RecordValue}
use Rattle.mate_desk.specs.Content.{Content, QueueValue, Waiting}
use Rattle.mate_desk.specs.Calls.{change_at, submit_refusal_by, with_entry, withdrawn, withdrawn_at}
use Rattle.mate_desk.specs.declared.refusals.SubmitRefusal.TheVariants as refusal
use Rattle.desk_room.specs.Events.{taking, accepts}
use Rattle.room_ends.specs.WindowRings.{letters_taken, letters_known}
use Rattle.desk_room.specs.Keepers.{known, IsRead, Ahead, OthersRead}
use Rattle.room_ends.specs.declared.letters.Letter.{Letter}
use Rattle.room_ends.specs.declared.letters.Letter.TheVariants.{Record, Withdrawal, Farewell}
use Rattle.desk_room.specs.declared.keepers.Keeper.{Keeper}
use Rattle.desk_room.proofs.Places.{nil_append, is_or_not, below_or, at_other, at_same, at_old, change_length}

-- what was taken off the rings, with what is known to lie in them, at the i-th
abbrev pub Longer : {A : Type 0} → (taken known taken_then known_then : List (List A)) → ℕ → Type 0
Longer taken known taken_then known_then i = IsPrefix (get_or taken i [] ++ get_or known i []) (get_or taken_then i [] ++ get_or known_then i [])

pub prefix_same : {A : Type 0} (xs : List A) → IsPrefix xs xs
prefix_same xs = ([], nil_append xs)

pub prefix_then : {A : Type 0} (xs ys zs : List A) → IsPrefix xs ys → IsPrefix ys zs → IsPrefix xs zs
prefix_then xs ys zs p q = (p.0 ++ q.0, sym (append_assoc xs p.0 q.0) ∙ (ap (λ z. z ++ q.0) p.1 ∙ q.1))

-- of one ring
pub ahead_at : {A B : Type 0} (f g : B → List A) (ls : List B) (n : ℕ) (l m : B) → n < length ls → l ≡ get_or ls n l
    → IsPrefix (f l ++ g l) (f m ++ g m) → (i : ℕ) → Longer (map f ls) (map g ls) (map f (set ls n m)) (map g (set ls n m)) i
ahead_at f g ls n l m h e p i = pick (is_or_not i n)
  where
    pick : ((i ≡ n) ⊎ (i ≢ n)) → Longer (map f ls) (map g ls) (map f (set ls n m)) (map g (set ls n m)) i
    pick (inl q) = rw (q, at_old f ls n l [] h e, at_old g ls n l [] h e, at_same f ls n m [] h, at_same g ls n m [] h) p
    pick (inr q) = rw (at_other f ls n i m [] q, at_other g ls n i m [] q) (prefix_same _)

pub ahead_taken : {A : Type 0} (taken known taken_then known_then : List A) (x : A) → known ≡ x ∷ known_then
    → taken_then ≡ taken ++ x ∷ [] → IsPrefix (taken ++ known) (taken_then ++ known_then)
ahead_taken taken known taken_then known_then x k t = (
  [],
  nil_append _
      ∙ (ap (λ r. taken ++ r) k ∙ (sym (append_assoc taken (x ∷ []) known_then) ∙ ap (λ r. r ++ known_then) (sym t))),
)

pub ahead_looked : {A : Type 0} (taken known taken_then known_then : List A) → IsPrefix known known_then → taken_then ≡ taken
    → IsPrefix (taken ++ known) (taken_then ++ known_then)
ahead_looked taken known taken_then known_then p t =
    (p.0, append_assoc taken known p.0 ∙ (ap (λ r. taken ++ r) p.1 ∙ ap (λ r. r ++ known_then) (sym t)))

pub ahead_then : (k l m : Keeper) → Ahead k l → Ahead l m → Ahead k m
unfolding Ahead
ahead_then k l m f g = λ i. prefix_then _ _ _ (f i) (g i)

-- where nothing was done at the record rings
pub ahead_equal : (k m : Keeper) → map letters_taken m.lines.items ≡ map letters_taken k.lines.items → known m ≡ known k → Ahead k m
unfolding Ahead
ahead_equal k m t q = λ i. (
  [],
  nil_append _ ∙ (ap (λ xs. get_or xs i [] ++ get_or (known k) i []) (sym t)
      ∙ ap (λ xs. get_or (map letters_taken m.lines.items) i [] ++ get_or xs i []) (sym q)),
)

pub ahead_lines : (k m : Keeper) → m.lines ≡ k.lines → Ahead k m
ahead_lines k m e = ahead_equal k m (ap (λ v. map letters_taken v.items) e) (ap (λ v. map letters_known v.items) e)

pub others_same : (n : ℕ) (k : Keeper) → OthersRead n k k
unfolding OthersRead
others_same n k = λ i h r. r

pub others_then : (n : ℕ) (k l m : Keeper) → OthersRead n k l → OthersRead n l m → OthersRead n k m
unfolding OthersRead
others_then n k l m f g = λ i h r. g i h (f i h r)

-- A window of which the desk accepts no more is refused still when a letter was taken.
abbrev refuses : Bool → ℕ → Option QueueValue → Bool
refuses closed next o = is_none (submit_refusal_by closed next o)

more_pending : (t : ℕ) (r : RecordValue) (q : QueueValue) → nat_le q.room (length q.pending) ≡ true
    → nat_le (with_entry t r q).room (length (with_entry t r q).pending) ≡ true
more_pending t r q h = let g : q.room ≤ length q.pending = grind (arith, nat_tests, h) in
    let k : q.room ≤ length (with_entry t r q).pending = omega (
      arith,
      g,
      length-append q.pending
          (record { ticket = t; asked = r; phase = Waiting; withdrawn = false } ∷ []),
    ) in grind (arith, nat_tests, k)

same_pending : (m : ℕ) (q : QueueValue) → nat_le (withdrawn_at m q).room (length (withdrawn_at m q).pending) ≡ nat_le q.room (length q.pending)
same_pending m q = (elim (nat_lt m q.delivered) as (λ b. let p : QueueValue = (if b then q
    else record { room = q.room; delivered = q.delivered; pending = change_at (m - q.delivered) withdrawn q.pending }) in
    nat_le p.room (length p.pending) ≡ nat_le q.room (length q.pending)) [
      | true ↦ refl
      | false ↦ ap (nat_le q.room) (change_length (m - q.delivered) withdrawn q.pending)
    ])

-- why it was: the other's was accepted, so the desk is open and a ticket is left
full_of : (closed full most : Bool) → is_none (if closed then Some refusal.Closed else (if full then Some refusal.Full
    else (if most then Some refusal.Exhausted else None))) ≡ false → closed ≡ false → most ≡ false → full ≡ true
full_of true full most e a b = absurd (true≢false a)
full_of false true most e a b = refl
full_of false false true e a b = absurd (true≢false b)
full_of false false false e a b = absurd (true≢false e)

still_full : (closed full most : Bool) → full ≡ true → is_none (if closed then Some refusal.Closed
    else (if full then Some refusal.Full else (if most then Some refusal.Exhausted else None))) ≡ false
still_full true full most e = refl
still_full false true most e = refl
still_full false false most e = absurd (true≢false (sym e))

open_of : (closed full most : Bool) → is_none (if closed then Some refusal.Closed else (if full then Some refusal.Full
    else (if most then Some refusal.Exhausted else None))) ≡ true → (closed ≡ false) × (most ≡ false)
open_of true full most e = absurd (true≢false (sym e))
open_of false true most e = absurd (true≢false (sym e))
open_of false false true e = absurd (true≢false (sym e))
open_of false false false e = (refl, refl)

pub accepted_open : (c : Content) (o : Option QueueValue) → refuses c.closed c.next o ≡ true → (c.closed ≡ false) × ((c.next == 2 ^ 64 - 1) ≡ false)
accepted_open c None h = absurd (true≢false (sym h))
accepted_open c (Some q) h = open_of c.closed (nat_le q.room (length q.pending)) (c.next == 2 ^ 64 - 1) h

-- at any window, after a change of one queue that leaves a full one full
still_refused : (closed : Bool) (next new : ℕ) (g : QueueValue → QueueValue) → closed ≡ false → (next == 2 ^ 64 - 1) ≡ false
    → ((q : QueueValue) → nat_le q.room (length q.pending) ≡ true → nat_le (g q).room (length (g q).pending) ≡ true)
    → (i n : ℕ) (qs : List QueueValue) → refuses closed next (slice_get qs i) ≡ false → refuses closed new (slice_get (change_at n g qs) i) ≡ false
still_refused closed next new g a b each zero n [] h = none n
  where
    none : (n : ℕ) → refuses closed new (slice_get (change_at n g []) 0) ≡ false
    none zero = refl
    none (suc n) = refl
still_refused closed next new g a b each (suc i) n [] h = none n
  where
    none : (n : ℕ) → refuses closed new (slice_get (change_at n g []) (suc i)) ≡ false
    none zero = refl
    none (suc n) = refl
still_refused closed next new g a b each zero zero (q ∷ qs) h = still_full closed _ (new == 2 ^ 64 - 1)
    (each q (full_of closed (nat_le q.room (length q.pending)) (next == 2 ^ 64 - 1) h a b))
still_refused closed next new g a b each (suc i) zero (q ∷ qs) h = go i qs h
  where
    go : (i : ℕ) (qs : List QueueValue) → refuses closed next (slice_get qs i) ≡ false → refuses closed new (slice_get qs i) ≡ false
    go zero [] h = refl
    go (suc i) [] h = refl
    go zero (q ∷ qs) h = still_full closed (nat_le q.room (length q.pending)) (new == 2 ^ 64 - 1)
        (full_of closed (nat_le q.room (length q.pending)) (next == 2 ^ 64 - 1) h a b)
    go (suc i) (q ∷ qs) h = go i qs h
still_refused closed next new g a b each zero (suc n) (q ∷ qs) h = still_full closed (nat_le q.room (length q.pending))
    (new == 2 ^ 64 - 1) (full_of closed (nat_le q.room (length q.pending)) (next == 2 ^ 64 - 1) h a b)
still_refused closed next new g a b each (suc i) (suc n) (q ∷ qs) h = still_refused closed next new g a b each i n qs h

pub refused_still : (n i : ℕ) (x : Letter) (c : Content) → accepts c n ≡ true → accepts c i ≡ false → accepts (taking n x c) i ≡ false
refused_still n i (Record r) c h k = let o = accepted_open c (slice_get c.queues n) h in
    still_refused c.closed c.next (c.next + 1) (with_entry c.next r) o.0 o.1 (more_pending c.next r) i n c.queues k
refused_still n i (Withdrawal m) c h k = let o = accepted_open c (slice_get c.queues n) h in
    still_refused c.closed c.next c.next (withdrawn_at m) o.0 o.1 (λ q e. same_pending m q ∙ e) i n c.queues k
refused_still n i Farewell c h k = k

-- one window more is read
pub read_more : (n : ℕ) (k m : Keeper) → ((i : ℕ) → i < n → IsRead i k) → OthersRead n k m → IsRead n m → (i : ℕ) → i < n + 1 → IsRead i m
unfolding OthersRead
read_more n k m all others now i h = ⊎_elim (λ (q : i < n). others i (λ e. absurd (omega (arith, q, e))) (all i q))
    (λ (q : i ≡ n). subst (λ j. IsRead j m) (sym q) now) (below_or i n h)
