-- What a window has pending, where one queue changes.
use Rattle.std.proofs.Common.{◌≡◌, ◌≢◌, ℕ, zero, suc, ◌+◌, true, false, if◌then◌else◌, List, [], ◌∷◌}
use Rattle.std.proofs.Common.{length, map, drop, slice_get, Option, Some, None, refl, ap, arith}
use Rattle.mate_desk.specs.Content.{QueueValue, EntryValue, is_ready}
use Rattle.mate_desk.specs.Calls.{change_at, in_queue, ready_first, ready_of, collected, collected_by}
use Rattle.mate_desk.specs.Deliveries.{delivery, delivery_of}
use Rattle.mate_jobs.specs.declared.deliveries.Delivery.{Delivery}
use Rattle.desk_room.specs.Turns.{pending_at}

pub ready_at : (n : ℕ) (qs : List QueueValue) → ready_of (slice_get qs n) ≡ ready_first (pending_at n qs)
ready_at zero [] = refl
ready_at (suc n) [] = refl
ready_at zero (q ∷ qs) = refl
ready_at (suc n) (q ∷ qs) = ready_at n qs

pub pending_map : (f : EntryValue → EntryValue) (n : ℕ) (qs : List QueueValue) → pending_at n (map (in_queue f) qs) ≡ map f (pending_at n qs)
pending_map f n [] = refl
pending_map f zero (q ∷ qs) = refl
pending_map f (suc n) (q ∷ qs) = pending_map f n qs

pub pending_other : (f : QueueValue → QueueValue) (qs : List QueueValue) (n i : ℕ) → i ≢ n → pending_at i (change_at n f qs) ≡ pending_at i qs
pending_other f [] zero i h = refl
pending_other f [] (suc n) i h = refl
pending_other f (q ∷ qs) zero zero h = absurd (omega arith)
pending_other f (q ∷ qs) zero (suc i) h = refl
pending_other f (q ∷ qs) (suc n) zero h = refl
pending_other f (q ∷ qs) (suc n) (suc i) h = pending_other f qs n i (λ e. h (ap suc e))

-- the first pending record is gone
abbrev pub gone : QueueValue → QueueValue
gone q = record { room = q.room; delivered = q.delivered + 1; pending = drop 1 q.pending }

-- what is delivered was there, and ready
pub record IsFirst (d : Delivery) (es : List EntryValue) : Type 0 where
  pub entry : EntryValue
  pub rest : List EntryValue
  pub there : es ≡ entry ∷ rest
  pub ready : is_ready entry ≡ true
  pub given : delivery_of entry ≡ d

pub first_is : (d : Delivery) (es : List EntryValue) → delivery (ready_first es) ≡ Some d → IsFirst d es
first_is d [] h = absurd (cc)
first_is d (e ∷ es) h = (elim (is_ready e) as (λ b. is_ready e ≡ b → delivery (if b then Some e else None) ≡ Some d → IsFirst d (e ∷ es)) [
  | true ↦ λ r g. record { entry = e; rest = es; there = refl; ready = r; given = cc }
  | false ↦ λ r g. absurd (cc)
]) refl h

pub gone_is : (d : Delivery) (q : QueueValue) → delivery (ready_first q.pending) ≡ Some d → collected q ≡ gone q
gone_is d q h = by_first (ready_first q.pending) h
  where
    by_first : (o : Option EntryValue) → delivery o ≡ Some d → collected_by o q ≡ gone q
    by_first None g = absurd (cc)
    by_first (Some e) g = refl

pub collected_is : (n : ℕ) (d : Delivery) (qs : List QueueValue) → delivery (ready_first (pending_at n qs)) ≡ Some d
    → change_at n collected qs ≡ change_at n gone qs
collected_is zero d [] h = refl
collected_is (suc n) d [] h = refl
collected_is zero d (q ∷ qs) h = ap (λ x. x ∷ qs) (gone_is d q h)
collected_is (suc n) d (q ∷ qs) h = ap (λ l. q ∷ l) (collected_is n d qs h)

pub pending_gone : (qs : List QueueValue) (n : ℕ) → pending_at n (change_at n gone qs) ≡ drop 1 (pending_at n qs)
pending_gone [] zero = refl
pending_gone [] (suc n) = refl
pending_gone (q ∷ qs) zero = refl
pending_gone (q ∷ qs) (suc n) = pending_gone qs n

-- where something is ready something is pending
pub ready_fewer : (d : Delivery) (es : List EntryValue) → delivery (ready_first es) ≡ Some d → length (drop 1 es) + 1 ≡ length es
ready_fewer d [] h = absurd (cc)
ready_fewer d (e ∷ es) h = omega arith

pub none_ready : (es : List EntryValue) → length es ≡ 0 → ready_first es ≡ None
none_ready [] h = refl
none_ready (e ∷ es) h = absurd (omega arith)
