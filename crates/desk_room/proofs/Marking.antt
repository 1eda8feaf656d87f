-- Each event keeps that withdrawals are marked.
use Rattle.std.proofs.Common.{◌≡◌, ◌<◌, ◌≤◌, ℕ, zero, suc, ◌+◌, ◌-◌, Bool, true, false, ◌||◌, nat_lt, if◌then◌else◌, List}
use Rattle.std.proofs.Common.{[], ◌∷◌, ◌++◌, length, map, drop, Some, refl, sym, ap, ◌∙◌, subst, arith, length-append}
use Rattle.std.proofs.Math.Logic.{∥∥₁_map}
use Rattle.std.proofs.lemmas.List.{map-append}
use Rattle.std.proofs.lemmas.Bool.Decides.{nat_tests}
use Rattle.chess_notation.specs.Records.{RecordValue}
use Rattle.mate_desk.specs.Content.{QueueValue, EntryValue, Phase, Waiting}
use Rattle.mate_desk.specs.Calls.{change_at, in_queue, into_phase, with_entry, withdrawn, withdrawn_at, ready_first}
use Rattle.mate_desk.specs.Deliveries.{delivery, delivery_of}
use Rattle.mate_jobs.specs.declared.deliveries.Delivery.{Delivery}
use Rattle.mate_jobs.specs.Jobs.{answer_to}
use Rattle.mate_jobs.specs.declared.deliveries.Delivery.TheVariants.{Answer, Notice}
use Rattle.desk_room.specs.Deliveries.{is_answer}
use Rattle.desk_room.specs.Withdrawals.{mark, marks_onto, marks, are_notices_marked}
use Rattle.desk_room.specs.Events.{RoomLists, Event, Takes, Gives, Orders, Hears, May, after, one_more, Leads}
use Rattle.desk_room.specs.Kept.{is_withdrawn, IsMarked, EachIsMarked, AreMarked}
use Rattle.desk_room.specs.Turns.{pending_at}
use Rattle.room_ends.specs.declared.letters.Letter.{Letter}
use Rattle.room_ends.specs.declared.letters.Letter.TheVariants.{Record, Withdrawal, Farewell}
use Rattle.room_ends.specs.declared.letters.Back.TheVariants.{Solved, Returned}
use Rattle.desk_room.proofs.Places.{map_length, change_id, change_length}
use Rattle.desk_room.proofs.Tests.{and_both, and_make, or_left}
use Rattle.desk_room.proofs.Queues.{ready_at, gone, first_is, collected_is}

marked_change : (g : List Letter → List Letter) (f : List Delivery → List Delivery) (h : QueueValue → QueueValue)
    (ts : List (List Letter)) (ps : List (List Delivery)) (qs : List QueueValue) (n : ℕ)
    → ((t : List Letter) (p : List Delivery) (q : QueueValue) → q.pending ≡ pending_at n qs → IsMarked t p q → IsMarked (g t)
    (f p) (h q)) → EachIsMarked ts ps qs → EachIsMarked (change_at n g ts) (change_at n f ps) (change_at n h qs)
marked_change g f h [] [] [] zero each a = tt
marked_change g f h [] [] [] (suc n) each a = tt
marked_change g f h [] [] (q ∷ qs) n each a = absurd a
marked_change g f h [] (p ∷ ps) qs n each a = absurd a
marked_change g f h (t ∷ ts) [] qs n each a = absurd a
marked_change g f h (t ∷ ts) (p ∷ ps) [] n each a = absurd a
marked_change g f h (t ∷ ts) (p ∷ ps) (q ∷ qs) zero each a = (each t p q refl a.0, a.1)
marked_change g f h (t ∷ ts) (p ∷ ps) (q ∷ qs) (suc n) each a = (a.0, marked_change g f h ts ps qs n each a.1)

withdrawn_moved : (p : EntryValue → Bool) (ph : Phase) (es : List EntryValue) → map is_withdrawn (map (into_phase p ph) es) ≡ map is_withdrawn es
withdrawn_moved p ph [] = refl
withdrawn_moved p ph (e ∷ es) = ap (λ b. b ∷ map is_withdrawn (map (into_phase p ph) es)) (elim (p e) as (λ b.
    is_withdrawn (if b then record { ticket = e.ticket; asked = e.asked; phase = ph; withdrawn = e.withdrawn } else e)
    ≡ e.withdrawn) [ true ↦ refl | false ↦ refl ]) ∙ ap (λ l. e.withdrawn ∷ l) (withdrawn_moved p ph es)

marked_moved : (f : EntryValue → Bool) (ph : Phase) (ts : List (List Letter)) (ps : List (List Delivery)) (qs : List QueueValue)
    → EachIsMarked ts ps qs → EachIsMarked ts ps (map (in_queue (into_phase f ph)) qs)
marked_moved f ph [] [] [] a = tt
marked_moved f ph [] [] (q ∷ qs) a = absurd a
marked_moved f ph [] (p ∷ ps) qs a = absurd a
marked_moved f ph (t ∷ ts) [] qs a = absurd a
marked_moved f ph (t ∷ ts) (p ∷ ps) [] a = absurd a
marked_moved f ph (t ∷ ts) (p ∷ ps) (q ∷ qs) a = (
  record {
    delivered = a.0.delivered;
    counted = omega (arith, a.0.counted, map_length (into_phase f ph) q.pending);
    withdrawn = withdrawn_moved f ph q.pending ∙ a.0.withdrawn;
    notices = a.0.notices;
  },
  marked_moved f ph ts ps qs a.1,
)

-- marks of letters and one more
marks_append : (ms : List Bool) (xs ys : List Letter) → marks_onto ms (xs ++ ys) ≡ marks_onto (marks_onto ms xs) ys
marks_append ms [] ys = refl
marks_append ms (Record r ∷ xs) ys = marks_append (ms ++ false ∷ []) xs ys
marks_append ms (Withdrawal n ∷ xs) ys = marks_append (mark n ms) xs ys
marks_append ms (Farewell ∷ xs) ys = marks_append ms xs ys

drop_snoc : (k : ℕ) (ms : List Bool) (b : Bool) → k ≤ length ms → drop k (ms ++ b ∷ []) ≡ drop k ms ++ b ∷ []
drop_snoc zero ms b h = refl
drop_snoc (suc k) [] b h = absurd (omega arith)
drop_snoc (suc k) (m ∷ ms) b h = drop_snoc k ms b (omega arith)

or_true : (a : Bool) → (a || true) ≡ true
or_true true = refl
or_true false = refl

notices_snoc : (ds : List Delivery) (ms : List Bool) (b : Bool) → are_notices_marked ds ms ≡ true → are_notices_marked ds (ms ++ b ∷ []) ≡ true
notices_snoc [] ms b e = refl
notices_snoc (d ∷ ds) [] b e = let x = and_both (is_answer d) _ e in and_make (is_answer d || b) _ (or_left (is_answer d) b x.0) x.1
notices_snoc (d ∷ ds) (m ∷ ms) b e = let x = and_both (is_answer d || m) _ e in and_make (is_answer d || m) _ x.0 (notices_snoc ds ms b x.1)

notices_mark : (n : ℕ) (ds : List Delivery) (ms : List Bool) → are_notices_marked ds ms ≡ true → are_notices_marked ds (mark n ms) ≡ true
notices_mark n [] ms e = refl
notices_mark zero (d ∷ ds) [] e = e
notices_mark (suc n) (d ∷ ds) [] e = e
notices_mark zero (d ∷ ds) (m ∷ ms) e = let x = and_both (is_answer d || m) _ e in and_make (is_answer d || true) _ (or_true (is_answer d)) x.1
notices_mark (suc n) (d ∷ ds) (m ∷ ms) e = let x = and_both (is_answer d || m) _ e in and_make (is_answer d || m) _ x.0 (notices_mark n ds ms x.1)

mark_length : (n : ℕ) (ms : List Bool) → length (mark n ms) ≡ length ms
mark_length zero [] = refl
mark_length (suc n) [] = refl
mark_length zero (m ∷ ms) = refl
mark_length (suc n) (m ∷ ms) = ap suc (mark_length n ms)

marks_entries : (n : ℕ) (es : List EntryValue) → map is_withdrawn (change_at n withdrawn es) ≡ mark n (map is_withdrawn es)
marks_entries zero [] = refl
marks_entries (suc n) [] = refl
marks_entries zero (e ∷ es) = refl
marks_entries (suc n) (e ∷ es) = ap (λ l. e.withdrawn ∷ l) (marks_entries n es)

drop_low : (k n : ℕ) (ms : List Bool) → n < k → drop k (mark n ms) ≡ drop k ms
drop_low zero n ms h = absurd (omega arith)
drop_low (suc k) zero [] h = refl
drop_low (suc k) (suc n) [] h = refl
drop_low (suc k) zero (m ∷ ms) h = refl
drop_low (suc k) (suc n) (m ∷ ms) h = drop_low k n ms (omega arith)

drop_high : (k n j : ℕ) (ms : List Bool) → n ≡ k + j → drop k (mark n ms) ≡ mark j (drop k ms)
drop_high zero n j ms h = ap (λ x. mark x ms) (omega (arith, h))
drop_high (suc k) zero j ms h = absurd (omega (arith, h))
drop_high (suc k) (suc n) zero [] h = refl
drop_high (suc k) (suc n) (suc j) [] h = refl
drop_high (suc k) (suc n) j (m ∷ ms) h = drop_high k n j ms (omega (arith, h))

marked_record : (r : RecordValue) (k : ℕ) (t : List Letter) (p : List Delivery) (q : QueueValue) → IsMarked t p q
    → IsMarked (t ++ Record r ∷ []) p (with_entry k r q)
marked_record r k t p q a =
    let e : marks (t ++ Record r ∷ []) ≡ marks t ++ false ∷ [] = marks_append [] t (Record r ∷ []) in
    record {
      delivered = a.delivered;
      counted = omega (
        arith,
        a.counted,
        ap length e,
        length-append (marks t) (false ∷ []),
        length-append q.pending (record { ticket = k; asked = r; phase = Waiting; withdrawn = false } ∷ []),
      );
      withdrawn = map-append is_withdrawn q.pending _ ∙ (ap (λ l. l ++ false ∷ []) a.withdrawn
          ∙ (sym (drop_snoc (length p) (marks t) false (omega (arith, a.counted))) ∙ ap (drop (length p)) (sym e)));
      notices = ap (are_notices_marked p) e ∙ notices_snoc p (marks t) false a.notices;
    }

marked_farewell : (t : List Letter) (p : List Delivery) (q : QueueValue) → IsMarked t p q → IsMarked (t ++ Farewell ∷ []) p q
marked_farewell t p q a =
    let e : marks (t ++ Farewell ∷ []) ≡ marks t = marks_append [] t (Farewell ∷ []) in
    record {
      delivered = a.delivered;
      counted = ap length e ∙ a.counted;
      withdrawn = a.withdrawn ∙ ap (drop (length p)) (sym e);
      notices = ap (are_notices_marked p) e ∙ a.notices;
    }

marked_withdrawal : (m : ℕ) (t : List Letter) (p : List Delivery) (q : QueueValue) → IsMarked t p q
    → IsMarked (t ++ Withdrawal m ∷ []) p (withdrawn_at m q)
marked_withdrawal m t p q a =
    let e : marks (t ++ Withdrawal m ∷ []) ≡ mark m (marks t) = marks_append [] t (Withdrawal m ∷ []) in
    (elim (nat_lt m q.delivered) as (λ b. nat_lt m q.delivered ≡ b → IsMarked (t ++ Withdrawal m ∷ []) p (if b then q
    else record { room = q.room; delivered = q.delivered; pending = change_at (m - q.delivered) withdrawn q.pending })) [
      | true ↦ λ l.
          let low : m < length p = below m q.delivered (length p) l a.delivered in
          record {
            delivered = a.delivered;
            counted = omega (arith, a.counted, ap length e, mark_length m (marks t));
            withdrawn = a.withdrawn ∙ (sym (drop_low (length p) m (marks t) low) ∙ ap (drop (length p)) (sym e));
            notices = ap (are_notices_marked p) e ∙ notices_mark m p (marks t) a.notices;
          }
      | false ↦ λ l.
          let high : m ≡ length p + (m - q.delivered) = above m q.delivered (length p) l a.delivered in
          record {
            delivered = a.delivered;
            counted = omega (arith, a.counted, ap length e, mark_length m (marks t), change_length (m - q.delivered) withdrawn q.pending);
            withdrawn = marks_entries (m - q.delivered) q.pending ∙ (ap (mark (m - q.delivered)) a.withdrawn
                ∙ (sym (drop_high (length p) m (m - q.delivered) (marks t) high) ∙ ap (drop (length p)) (sym e)));
            notices = ap (are_notices_marked p) e ∙ notices_mark m p (marks t) a.notices;
          }
    ]) refl
  where
    below : (m d k : ℕ) → nat_lt m d ≡ true → d ≡ k → m < k
    below m d k l e = grind (arith, nat_tests, l, e)

    above : (m d k : ℕ) → nat_lt m d ≡ false → d ≡ k → m ≡ k + (m - d)
    above m d k l e = let h : d ≤ m = grind (arith, nat_tests, l) in omega (arith, h, e)

drop_next : {A : Type 0} (k : ℕ) (xs : List A) → drop (suc k) xs ≡ drop 1 (drop k xs)
drop_next zero xs = refl
drop_next (suc k) [] = refl
drop_next (suc k) (x ∷ xs) = drop_next k xs

drop_more : {A : Type 0} (k j : ℕ) (xs : List A) → j ≡ suc k → drop j xs ≡ drop 1 (drop k xs)
drop_more k j xs e = ap (λ n. drop n xs) e ∙ drop_next k xs

notices_last : (ds : List Delivery) (d : Delivery) (ms : List Bool) (m : Bool) (rest : List Bool) → drop (length ds) ms ≡ m ∷ rest
    → are_notices_marked ds ms ≡ true → (is_answer d || m) ≡ true → are_notices_marked (ds ++ d ∷ []) ms ≡ true
notices_last [] d [] m rest e f g = absurd (cc)
notices_last [] d (x ∷ ms) m rest e f g = let y : x ≡ m = cc in and_make (is_answer d || x) true (ap (λ b. is_answer d || b) y ∙ g) refl
notices_last (c ∷ ds) d [] m rest e f g = absurd (cc)
notices_last (c ∷ ds) d (x ∷ ms) m rest e f g = let y = and_both (is_answer c || x) _ f in
    and_make (is_answer c || x) _ y.0 (notices_last ds d ms m rest e y.1 g)

fair : (d : Delivery) (i : EntryValue) → delivery_of i ≡ d → (is_answer d || i.withdrawn) ≡ true
fair d i h = ap (λ x. is_answer x || i.withdrawn) (sym h) ∙ own i.withdrawn
  where
    own : (w : Bool) → (is_answer (if w then Notice i.ticket i.asked else Answer (answer_to i.asked)) || w) ≡ true
    own true = refl
    own false = refl

marked_first : (d : Delivery) (t : List Letter) (p : List Delivery) (q : QueueValue) → delivery (ready_first q.pending) ≡ Some d
    → IsMarked t p q → IsMarked t (p ++ d ∷ []) (gone q)
marked_first d t p q r a =
    let f = first_is d q.pending r in
    let len = length-append p (d ∷ []) in
    let m : f.entry.withdrawn ∷ map is_withdrawn f.rest ≡ drop (length p) (marks t) = ap (map is_withdrawn) (sym f.there) ∙ a.withdrawn in
    record {
      delivered = omega (arith, a.delivered, len);
      counted = omega (arith, a.counted, len, ap length f.there, ap (λ l. length (drop 1 l)) f.there);
      withdrawn = ap (λ l. map is_withdrawn (drop 1 l)) f.there
          ∙ (ap (drop 1) m ∙ sym (drop_more (length p) (length (p ++ d ∷ [])) (marks t) (omega (arith, len))));
      notices = notices_last p d (marks t) f.entry.withdrawn (map is_withdrawn f.rest) (sym m) a.notices (fair d f.entry f.given);
    }

-- every event that may come keeps it
pub marked_after : (e : Event) (s : RoomLists) → May e s → AreMarked s → AreMarked (after e s)
marked_after (Hears b (Solved d)) s m a = marked_moved _ _ s.taken s.put s.content.queues a
marked_after (Hears b (Returned j)) s m a = marked_moved _ _ s.taken s.put s.content.queues a
marked_after (Orders job) s m a = marked_moved _ _ s.taken s.put s.content.queues a
marked_after (Takes n (Record r)) s m a =
    subst (λ (ps : List (List Delivery)). EachIsMarked (change_at n (one_more (Record r)) s.taken) ps
    (change_at n (with_entry s.content.next r) s.content.queues)) (change_id n s.put)
    (marked_change (one_more (Record r)) (λ p. p) (with_entry s.content.next r) s.taken s.put s.content.queues n
    (λ t p q h. marked_record r s.content.next t p q) a)
marked_after (Takes n (Withdrawal k)) s m a =
    subst (λ (ps : List (List Delivery)). EachIsMarked (change_at n (one_more (Withdrawal k)) s.taken) ps
    (change_at n (withdrawn_at k) s.content.queues)) (change_id n s.put)
    (marked_change (one_more (Withdrawal k)) (λ p. p) (withdrawn_at k) s.taken s.put s.content.queues n (λ t p q h. marked_withdrawal k t p q) a)
marked_after (Takes n Farewell) s m a =
    subst (λ (ps : List (List Delivery)). EachIsMarked (change_at n (one_more Farewell) s.taken) ps s.content.queues) (change_id n s.put)
    (subst (λ (qs : List QueueValue). EachIsMarked (change_at n (one_more Farewell) s.taken) (change_at n (λ p. p) s.put) qs)
    (change_id n s.content.queues)
    (marked_change (one_more Farewell) (λ p. p) (λ q. q) s.taken s.put s.content.queues n (λ t p q h. marked_farewell t p q) a))
marked_after (Gives n d) s m a =
    let r : delivery (ready_first (pending_at n s.content.queues)) ≡ Some d = ap delivery (sym (ready_at n s.content.queues)) ∙ m.1 in
    subst (λ (qs : List QueueValue). EachIsMarked s.taken (change_at n (one_more d) s.put) qs) (sym (collected_is n d s.content.queues r))
    (subst (λ (ts : List (List Letter)). EachIsMarked ts (change_at n (one_more d) s.put) (change_at n gone s.content.queues)) (change_id n s.taken)
    (marked_change (λ t. t) (one_more d) gone s.taken s.put s.content.queues n
    (λ t p q h. marked_first d t p q (ap (λ l. delivery (ready_first l)) h ∙ r)) a))

pub marked_run : (es : List Event) (s t : RoomLists) → Leads es s t → AreMarked s → AreMarked t
marked_run [] s t r a = subst AreMarked (sym r) a
marked_run (e ∷ es) s t r a = marked_run es (after e s) t r.1 (marked_after e s r.0 a)

-- the same of what a keeper's type keeps
pub marked_step : (e : Event) (s t : RoomLists) → May e s → t ≡ after e s → ∥ AreMarked s ∥₁ → ∥ AreMarked t ∥₁
marked_step e s t m q k = ∥∥₁_map k (λ a. subst AreMarked (sym q) (marked_after e s m a))

pub marked_same : (s t : RoomLists) → t ≡ s → ∥ AreMarked s ∥₁ → ∥ AreMarked t ∥₁
marked_same s t q k = subst (λ (u : RoomLists). ∥ AreMarked u ∥₁) (sym q) k

pub marked_runs : (es : List Event) (s t : RoomLists) → Leads es s t → ∥ AreMarked s ∥₁ → ∥ AreMarked t ∥₁
marked_runs es s t r k = ∥∥₁_map k (marked_run es s t r)
