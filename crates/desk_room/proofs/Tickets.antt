-- Each record that was taken has a ticket, and none has more pending than there is room for.
use Rattle.std.proofs.Common.{◌≡◌, ◌<◌, ◌≤◌, ℕ, zero, suc, ◌+◌, ◌-◌, ◌^◌, ◌==◌, true, false, List, [], ◌∷◌, ◌++◌, length}
use Rattle.std.proofs.Common.{map, get_or, slice_get, replicate, Some, refl, ap, ◌∙◌, arith, length-append}
use Rattle.std.proofs.lemmas.Bool.Decides.{nat_tests}
use Rattle.std.proofs.Math.Logic.{∥∥₁_elim}
use Rattle.std.specs.Coded.{Coded-set, coded_ℕ}
use Rattle.mate_desk.specs.Content.{Content, QueueValue}
use Rattle.mate_desk.specs.Laws.{AreOrdered}
use Rattle.mate_jobs.specs.declared.deliveries.Delivery.{Delivery}
use Rattle.room_ends.specs.Letters.{records}
use Rattle.desk_room.specs.Deliveries.{asked}
use Rattle.desk_room.specs.Events.{accepts}
use Rattle.desk_room.specs.Kept.{asked_of, room_of, owed, EachIsMarked}
use Rattle.desk_room.specs.Turns.{pending_at}
use Rattle.room_ends.specs.declared.letters.Letter.{Letter}
use Rattle.desk_room.proofs.Places.{map_length, head_is, tail_is}
use Rattle.desk_room.proofs.Ahead.{accepted_open}

abbrev delivered_at : ℕ → List QueueValue → ℕ
delivered_at n [] = 0
delivered_at zero (q ∷ qs) = q.delivered
delivered_at (suc n) (q ∷ qs) = delivered_at n qs

marked_at : (n : ℕ) (ts : List (List Letter)) (ps : List (List Delivery)) (qs : List QueueValue) → EachIsMarked ts ps qs
    → delivered_at n qs ≡ length (get_or ps n [])
marked_at n [] [] [] a = refl
marked_at n [] [] (q ∷ qs) a = absurd a
marked_at n [] (p ∷ ps) qs a = absurd a
marked_at n (t ∷ ts) [] qs a = absurd a
marked_at n (t ∷ ts) (p ∷ ps) [] a = absurd a
marked_at zero (t ∷ ts) (p ∷ ps) (q ∷ qs) a = a.0.delivered
marked_at (suc n) (t ∷ ts) (p ∷ ps) (q ∷ qs) a = marked_at n ts ps qs a.1

both_parts : (p : List Delivery) (q : QueueValue) → length (map asked p ++ map asked_of q.pending) ≡ length p + length q.pending
both_parts p q = omega (arith, length-append (map asked p) (map asked_of q.pending), map_length asked p, map_length asked_of q.pending)

owed_at : (n : ℕ) (ts : List (List Letter)) (ps : List (List Delivery)) (qs : List QueueValue) → n < length ts
    → map records ts ≡ owed ps qs → length (records (get_or ts n [])) ≡ length (get_or ps n []) + length (pending_at n qs)
owed_at n [] ps qs h e = absurd (omega arith)
owed_at n (t ∷ ts) [] qs h e = absurd (cc)
owed_at n (t ∷ ts) (p ∷ ps) [] h e = absurd (cc)
owed_at zero (t ∷ ts) (p ∷ ps) (q ∷ qs) h e = ap length (head_is [] (records t) (map asked p ++ map asked_of q.pending) _ _ e) ∙ both_parts p q
owed_at (suc n) (t ∷ ts) (p ∷ ps) (q ∷ qs) h e = owed_at n ts ps qs (omega arith)
    (tail_is (records t) (map asked p ++ map asked_of q.pending) (map records ts) (owed ps qs) e)

counted_at : (next n : ℕ) (qs : List QueueValue) → AreOrdered next qs → n < length qs → delivered_at n qs + length (pending_at n qs) ≤ next
counted_at next n qs o h = at n qs (λ s q g. (o s q g).counted) h
  where
    at : (n : ℕ) (qs : List QueueValue) → ((s : ℕ) (q : QueueValue) → slice_get qs s ≡ Some q
        → q.delivered + length q.pending ≤ next) → n < length qs → delivered_at n qs + length (pending_at n qs) ≤ next
    at n [] all h = absurd (omega arith)
    at zero (q ∷ qs) all h = all 0 q refl
    at (suc n) (q ∷ qs) all h = at n qs (λ s r g. all (suc s) r g) (omega arith)

less_than : (m : ℕ) → m < 2 ^ 64 → (m == 2 ^ 64 - 1) ≡ false → m < 2 ^ 64 - 1
less_than m h e = grind (arith, nat_tests, h, e)

-- A window of which the desk accepts more sent fewer records than there are tickets.
pub few_records : (n : ℕ) (ts : List (List Letter)) (ps : List (List Delivery)) (c : Content) → n < length ts
    → n < length c.queues → map records ts ≡ owed ps c.queues → ∥ EachIsMarked ts ps c.queues ∥₁ → AreOrdered c.next c.queues
    → c.next < 2 ^ 64 → accepts c n ≡ true → length (records (get_or ts n [])) < 2 ^ 64 - 1
few_records n ts ps c h i e m o b a =
    let d : delivered_at n c.queues ≡ length (get_or ps n []) = ∥∥₁_elim m (Coded-set coded_ℕ _ _) (marked_at n ts ps c.queues) in
    omega (arith, d, owed_at n ts ps c.queues h e, counted_at c.next n c.queues o i, less_than c.next b (accepted_open c (slice_get c.queues n) a).1)

-- No window has more pending than its rings have places.
pub few_pending : (next n ring : ℕ) (qs : List QueueValue) → AreOrdered next qs → map room_of qs ≡ replicate (length qs) ring
    → n < length qs → length (pending_at n qs) ≤ ring
few_pending next n ring qs o r h = at n qs (λ s q g. (o s q g).fits) r h
  where
    at : (n : ℕ) (qs : List QueueValue) → ((s : ℕ) (q : QueueValue) → slice_get qs s ≡ Some q → length q.pending ≤ q.room)
        → map room_of qs ≡ replicate (length qs) ring → n < length qs → length (pending_at n qs) ≤ ring
    at n [] all r h = absurd (omega arith)
    at zero (q ∷ qs) all r h = omega (arith, all 0 q refl, head_is 0 q.room ring _ _ r)
    at (suc n) (q ∷ qs) all r h = at n qs (λ s x g. all (suc s) x g) (tail_is q.room ring _ _ r) (omega arith)
