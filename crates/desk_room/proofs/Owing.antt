-- Each event keeps that the records taken are those delivered and then those pending.
use Rattle.std.proofs.Common.{◌≡◌, ℕ, zero, suc, ◌-◌, Bool, true, false, nat_lt, if◌then◌else◌, List, []}
use Rattle.std.proofs.Common.{◌∷◌, ◌++◌, map, drop, Some, refl, sym, ap, ◌∙◌, subst, append_assoc}
use Rattle.std.proofs.lemmas.List.{map-append}
use Rattle.mate_desk.specs.Content.{QueueValue, EntryValue, Phase}
use Rattle.mate_desk.specs.Calls.{change_at, in_queue, into_phase, with_entry, withdrawn, withdrawn_at, ready_first}
use Rattle.mate_desk.specs.Deliveries.{delivery, delivery_of}
use Rattle.mate_jobs.specs.declared.deliveries.Delivery.{Delivery}
use Rattle.mate_jobs.specs.Jobs.{answer_to}
use Rattle.mate_jobs.specs.declared.deliveries.Delivery.TheVariants.{Answer, Notice}
use Rattle.room_ends.specs.Letters.{records}
use Rattle.desk_room.specs.Deliveries.{asked}
use Rattle.desk_room.specs.Events.{RoomLists, Event, Takes, Gives, Orders, Hears, May, after, one_more, Leads}
use Rattle.desk_room.specs.Kept.{asked_of, owed, AreOwed}
use Rattle.desk_room.specs.Turns.{pending_at}
use Rattle.room_ends.specs.declared.letters.Letter.{Letter}
use Rattle.room_ends.specs.declared.letters.Letter.TheVariants.{Record, Withdrawal, Farewell}
use Rattle.room_ends.specs.declared.letters.Back.TheVariants.{Solved, Returned}
use Rattle.desk_room.proofs.LetterCounts.{records_append}
use Rattle.desk_room.proofs.Places.{nil_append, head_is, tail_is, cons_is, change_id}
use Rattle.desk_room.proofs.Queues.{ready_at, gone, first_is, collected_is}

-- A change at one window keeps it, if it does there.
pub owed_change : (g : List Letter → List Letter) (f : List Delivery → List Delivery) (h : QueueValue → QueueValue)
    (ts : List (List Letter)) (ps : List (List Delivery)) (qs : List QueueValue) (n : ℕ)
    → ((t : List Letter) (p : List Delivery) (q : QueueValue) → q.pending ≡ pending_at n qs
    → records t ≡ map asked p ++ map asked_of q.pending → records (g t) ≡ map asked (f p) ++ map asked_of (h q).pending)
    → map records ts ≡ owed ps qs → map records (change_at n g ts) ≡ owed (change_at n f ps) (change_at n h qs)
owed_change g f h [] [] qs n each e = refl
owed_change g f h [] (p ∷ ps) [] zero each e = refl
owed_change g f h [] (p ∷ ps) [] (suc n) each e = refl
owed_change g f h [] (p ∷ ps) (q ∷ qs) n each e = absurd (cc)
owed_change g f h (t ∷ ts) [] qs n each e = absurd (cc)
owed_change g f h (t ∷ ts) (p ∷ ps) [] n each e = absurd (cc)
owed_change g f h (t ∷ ts) (p ∷ ps) (q ∷ qs) zero each e =
    cons_is _ _ _ _ (each t p q refl (head_is [] (records t) (map asked p ++ map asked_of q.pending) _ _ e))
    (tail_is (records t) (map asked p ++ map asked_of q.pending) (map records ts) (owed ps qs) e)
owed_change g f h (t ∷ ts) (p ∷ ps) (q ∷ qs) (suc n) each e =
    cons_is _ _ _ _ (head_is [] (records t) (map asked p ++ map asked_of q.pending) _ _ e) (owed_change g f h ts ps qs n each
    (tail_is (records t) (map asked p ++ map asked_of q.pending) (map records ts) (owed ps qs) e))

asked_moved : (p : EntryValue → Bool) (phase : Phase) (es : List EntryValue) → map asked_of (map (into_phase p phase) es) ≡ map asked_of es
asked_moved p phase [] = refl
asked_moved p phase (e ∷ es) =
    cons_is _ _ _ _ (elim (p e) as (λ b. asked_of (if b then record {
      ticket = e.ticket;
      asked = e.asked;
      phase = phase;
      withdrawn = e.withdrawn;
    } else e) ≡ e.asked) [ true ↦ refl | false ↦ refl ]) (asked_moved p phase es)

-- No change of phase changes what is owed.
owed_moved : (p : EntryValue → Bool) (phase : Phase) (ps : List (List Delivery)) (qs : List QueueValue)
    → owed ps (map (in_queue (into_phase p phase)) qs) ≡ owed ps qs
owed_moved p phase [] qs = refl
owed_moved p phase (d ∷ ps) [] = refl
owed_moved p phase (d ∷ ps) (q ∷ qs) = cons_is _ _ _ _ (ap (λ l. map asked d ++ l) (asked_moved p phase q.pending)) (owed_moved p phase ps qs)

asked_marked : (n : ℕ) (es : List EntryValue) → map asked_of (change_at n withdrawn es) ≡ map asked_of es
asked_marked zero [] = refl
asked_marked (suc n) [] = refl
asked_marked zero (e ∷ es) = refl
asked_marked (suc n) (e ∷ es) = ap (λ l. e.asked ∷ l) (asked_marked n es)

asked_nth : (m : ℕ) (q : QueueValue) → map asked_of (withdrawn_at m q).pending ≡ map asked_of q.pending
asked_nth m q = (elim (nat_lt m q.delivered) as (λ b. map asked_of (if b then q
    else record { room = q.room; delivered = q.delivered; pending = change_at (m - q.delivered) withdrawn q.pending }).pending
    ≡ map asked_of q.pending) [ true ↦ refl | false ↦ asked_marked (m - q.delivered) q.pending ])

owed_take : (n : ℕ) (x : Letter) (s : RoomLists) → AreOwed s → AreOwed (after (Takes n x) s)
owed_take n (Record r) s k =
    subst (λ (ps : List (List Delivery)). map records (change_at n (one_more (Record r)) s.taken)
    ≡ owed ps (change_at n (with_entry s.content.next r) s.content.queues)) (change_id n s.put)
    (owed_change (one_more (Record r)) (λ p. p) (with_entry s.content.next r) s.taken s.put s.content.queues n
    (λ t p q h e. records_append t (Record r ∷ []) ∙ (ap (λ l. l ++ r ∷ []) e ∙ (append_assoc (map asked p)
    (map asked_of q.pending) (r ∷ []) ∙ ap (λ l. map asked p ++ l) (sym (map-append asked_of q.pending _))))) k)
owed_take n (Withdrawal m) s k =
    subst (λ (ps : List (List Delivery)). map records (change_at n (one_more (Withdrawal m)) s.taken)
    ≡ owed ps (change_at n (withdrawn_at m) s.content.queues)) (change_id n s.put)
    (owed_change (one_more (Withdrawal m)) (λ p. p) (withdrawn_at m) s.taken s.put s.content.queues n
    (λ t p q h e. records_append t (Withdrawal m ∷ []) ∙ (nil_append (records t) ∙ (e ∙ ap (λ l. map asked p ++ l) (sym (asked_nth m q))))) k)
owed_take n Farewell s k =
    subst (λ (ps : List (List Delivery)). map records (change_at n (one_more Farewell) s.taken) ≡ owed ps s.content.queues) (change_id n s.put)
    (subst (λ (qs : List QueueValue). map records (change_at n (one_more Farewell) s.taken)
    ≡ owed (change_at n (λ p. p) s.put) qs) (change_id n s.content.queues)
    (owed_change (one_more Farewell) (λ p. p) (λ q. q) s.taken s.put s.content.queues n
    (λ t p q h e. records_append t (Farewell ∷ []) ∙ (nil_append (records t) ∙ e)) k))

asked_of_delivery : (e : EntryValue) → asked (delivery_of e) ≡ e.asked
asked_of_delivery e = (elim e.withdrawn as (λ b. asked (if b then Notice e.ticket e.asked else Answer (answer_to e.asked))
    ≡ e.asked) [ true ↦ refl | false ↦ refl ])

asked_first : (d : Delivery) (es : List EntryValue) → delivery (ready_first es) ≡ Some d → map asked_of es ≡ asked d ∷ map asked_of (drop 1 es)
asked_first d es h =
    let f = first_is d es h in
    ap (map asked_of) f.there ∙ (ap (λ a. a ∷ map asked_of f.rest) (sym (asked_of_delivery f.entry) ∙ ap asked f.given)
    ∙ ap (λ l. asked d ∷ map asked_of (drop 1 l)) (sym f.there))

owed_give : (n : ℕ) (d : Delivery) (s : RoomLists) → delivery (ready_first (pending_at n s.content.queues)) ≡ Some d
    → AreOwed s → AreOwed (after (Gives n d) s)
owed_give n d s r k =
    subst (λ (qs : List QueueValue). map records s.taken ≡ owed (change_at n (one_more d) s.put) qs) (sym (collected_is n d s.content.queues r))
    (subst (λ (ts : List (List Letter)). map records ts
    ≡ owed (change_at n (one_more d) s.put) (change_at n gone s.content.queues)) (change_id n s.taken)
    (owed_change (λ t. t) (one_more d) gone s.taken s.put s.content.queues n
    (λ t p q h e.
    let f : map asked_of q.pending ≡ asked d ∷ map asked_of (drop 1 q.pending) = asked_first d q.pending (ap (λ l. delivery (ready_first l)) h ∙ r) in
    e ∙ (ap (λ l. map asked p ++ l) f ∙ (sym (append_assoc (map asked p) (asked d ∷ []) (map asked_of (drop 1 q.pending)))
    ∙ ap (λ l. l ++ map asked_of (drop 1 q.pending)) (sym (map-append asked p (d ∷ [])))))) k))

-- every event that may come keeps it
pub owed_after : (e : Event) (s : RoomLists) → May e s → AreOwed s → AreOwed (after e s)
owed_after (Hears b (Solved d)) s m k = k ∙ sym (owed_moved _ _ s.put s.content.queues)
owed_after (Hears b (Returned j)) s m k = k ∙ sym (owed_moved _ _ s.put s.content.queues)
owed_after (Takes n x) s m k = owed_take n x s k
owed_after (Orders job) s m k = k ∙ sym (owed_moved _ _ s.put s.content.queues)
owed_after (Gives n d) s m k = owed_give n d s (ap delivery (sym (ready_at n s.content.queues)) ∙ m.1) k

-- and so does every run
pub owed_run : (es : List Event) (s t : RoomLists) → Leads es s t → AreOwed s → AreOwed t
owed_run [] s t r k = subst AreOwed (sym r) k
owed_run (e ∷ es) s t r k = owed_run es (after e s) t r.1 (owed_after e s r.0 k)
