-- The deliveries of one window leave the others as they were.
use Rattle.std.proofs.Common.{◌≡◌, ◌≢◌, ◌<◌, ◌⊎◌, inl, inr, ⊎_elim, ℕ, zero, suc, ◌+◌, Bool, true, false, if◌then◌else◌, List}
use Rattle.std.proofs.Common.{[], ◌∷◌, length, map, set, get_or, slice_get, Some, None, sym, ap, ◌∙◌, subst, arith}
use Rattle.mate_desk.specs.Content.{Content, QueueValue}
use Rattle.mate_desk.specs.Calls.{change_at, ready, ready_of, ready_first, collected, pending_of}
use Rattle.mate_desk.specs.Deliveries.{delivery}
use Rattle.room_ends.specs.WindowRings.{deliveries_put, places_free}
use Rattle.desk_room.specs.Keepers.{IsServed, OthersServed}
use Rattle.desk_room.specs.inside.Steps.{GaveOne}
use Rattle.desk_room.specs.Turns.{pending_at}
use Rattle.room_ends.specs.declared.window_ring_line.Line.{Line}
use Rattle.desk_room.specs.declared.keepers.Keeper.{Keeper}
use Rattle.desk_room.proofs.Places.{below_or, at_same}
use Rattle.desk_room.proofs.Fewness.{one_longer, as_long}
use Rattle.desk_room.proofs.Queues.{ready_at, pending_gone, pending_other, collected_is, ready_fewer, none_ready}

pub served_same : (n : ℕ) (k : Keeper) → OthersServed n k k
unfolding OthersServed
served_same n k = λ i h r. r

pub served_then : (n : ℕ) (k l m : Keeper) → OthersServed n k l → OthersServed n l m → OthersServed n k m
unfolding OthersServed
served_then n k l m f g = λ i h r. g i h (f i h r)

pub served_more : (n : ℕ) (k m : Keeper) → ((i : ℕ) → i < n → IsServed i k) → OthersServed n k m → IsServed n m → (i : ℕ) → i < n + 1 → IsServed i m
unfolding OthersServed
served_more n k m all others now i h = ⊎_elim (λ (q : i < n). others i (λ e. absurd (omega (arith, q, e))) (all i q))
    (λ (q : i ≡ n). subst (λ j. IsServed j m) (sym q) now) (below_or i n h)

-- where nothing is pending nothing is ready
pub served_empty : (n : ℕ) (k : Keeper) → length (pending_at n k.desk.queues) ≡ 0 → IsServed n k
served_empty n k h = inr (ready_at n k.desk.queues ∙ none_ready (pending_at n k.desk.queues) h)

pub gave_stuck : (b : Bool) (ls : List Line) (n : ℕ) (l m : Line) (c d : Content) → n < length ls → GaveOne n l m c d b
    → b ≡ false → (get_or (map places_free (set ls n m)) n 0 ≡ 0) ⊎ (ready d n ≡ None)
gave_stuck true ls n l m c d h g e = absurd (cc)
gave_stuck false ls n l m c d h g e = ⊎_elim (λ r. inl (at_same places_free ls n m 0 h ∙ r)) (λ r. inr (ap (λ (x : Content). ready x n) g.1 ∙ r)) g.2

pub gave_fewer : (b : Bool) (n : ℕ) (l m : Line) (c d : Content) → GaveOne n l m c d b → b ≡ true
    → length (pending_at n d.queues) + 1 ≡ length (pending_at n c.queues)
gave_fewer true n l m c d g e =
    let r : delivery (ready_first (pending_at n c.queues)) ≡ Some g.0 = ap delivery (sym (ready_at n c.queues)) ∙ g.1 in
    ap (λ (x : Content). length (pending_at n x.queues) + 1) g.3
    ∙ (ap (λ qs. length (pending_at n qs) + 1) (collected_is n g.0 c.queues r)
    ∙ (ap (λ es. length es + 1) (pending_gone c.queues n) ∙ ready_fewer g.0 (pending_at n c.queues) r))
gave_fewer false n l m c d g e = absurd (cc)

ready_other : (i n : ℕ) (qs : List QueueValue) → i ≢ n → ready_of (slice_get (change_at n collected qs) i) ≡ ready_of (slice_get qs i)
ready_other i n qs h = ready_at i (change_at n collected qs) ∙ (ap ready_first (pending_other collected qs n i h) ∙ sym (ready_at i qs))

pub gave_other : (b : Bool) (n i : ℕ) (l m : Line) (c d : Content) → GaveOne n l m c d b → i ≢ n → ready d i ≡ ready c i
gave_other true n i l m c d g h = ap (λ (x : Content). ready x i) g.3 ∙ ready_other i n c.queues h
gave_other false n i l m c d g h = ap (λ (x : Content). ready x i) g.1

-- how many a window has pending
pub pending_is : (n p : ℕ) (qs : List QueueValue) → pending_of (slice_get qs n) ≡ Some p → p ≡ length (pending_at n qs)
pending_is zero p [] h = absurd (cc)
pending_is (suc n) p [] h = absurd (cc)
pending_is zero p (q ∷ qs) h = let g : length q.pending ≡ p = cc in sym g
pending_is (suc n) p (q ∷ qs) h = pending_is n p qs h

pub gave_longer : (b : Bool) (ls : List Line) (n : ℕ) (l m : Line) (c d : Content) → n < length ls → l ≡ get_or ls n l
    → GaveOne n l m c d b → length (get_or (map deliveries_put (set ls n m)) n [])
    ≡ length (get_or (map deliveries_put ls) n []) + (if b then 1 else 0)
gave_longer true ls n l m c d h e g = one_longer deliveries_put ls n l m g.0 h e g.2
gave_longer false ls n l m c d h e g = omega (arith, as_long deliveries_put ls n l m h e g.0)
