-- Only what is heard solved becomes finished.
use Rattle.std.proofs.Common.{◌≡◌, ◌<◌, inl, inr, ⊎_elim, true≢false, ℕ, zero, suc, ◌-◌, Bool, true, false}
use Rattle.std.proofs.Common.{not, ◌||◌, nat_lt, if◌then◌else◌, List, [], ◌∷◌, ◌++◌, length, map, get_or}
use Rattle.std.proofs.Common.{drop, Some, refl, sym, ap, ◌∙◌, subst, arith, append_assoc}
use Rattle.std.specs.List.{list_any}
use Rattle.mate_jobs.specs.Jobs.{Task, answer_to}
use Rattle.chess_notation.specs.Records.{RecordValue}
use Rattle.mate_desk.specs.Content.{QueueValue, EntryValue, Phase, Waiting, Out, Finished, is_out, is_finished, has_task, waits_as, is_out_with}
use Rattle.mate_desk.specs.Calls.{change_at, into_phase, with_entry, withdrawn, withdrawn_at, ready_first}
use Rattle.mate_desk.specs.Deliveries.{delivery}
use Rattle.mate_jobs.specs.declared.deliveries.Delivery.{Delivery}
use Rattle.mate_jobs.specs.declared.deliveries.Delivery.TheVariants.{Answer, Notice}
use Rattle.desk_room.specs.Deliveries.{is_answer}
use Rattle.desk_room.specs.Events.{RoomLists, Event, Takes, Gives, Orders, Hears, after, one_more}
use Rattle.desk_room.specs.Events.{Leads, AllOf, is_heard, is_taken, is_ordered, is_given}
use Rattle.desk_room.specs.Turns.{Turned, gained, pending_at, solves, MayBeFinished, AreFinishedBy}
use Rattle.desk_room.specs.declared.turns.Turn.{Turn}
use Rattle.room_ends.specs.declared.letters.Letter.TheVariants.{Record, Withdrawal, Farewell}
use Rattle.room_ends.specs.declared.letters.Back.{Back}
use Rattle.room_ends.specs.declared.letters.Back.TheVariants.{Solved, Returned}
use Rattle.desk_room.proofs.Places.{nil_append, drop_all}
use Rattle.desk_room.proofs.Tests.{and_both, or_left, or_right, not_true}
use Rattle.desk_room.proofs.Queues.{ready_at, pending_map, gone, first_is, collected_is}
use Rattle.desk_room.proofs.Leaving.{run_same, heard_put, taken_put, ordered_put, taken_heard, ordered_heard, given_heard}
use Rattle.desk_room.proofs.Growth.{Grown, grown_same, grown_change, none_gained, any_more}

-- Entry by entry: the same record, and finished by these where the other is by those.
abbrev Like : List Back → List Back → List EntryValue → List EntryValue → Type 0
Like xs ys [] [] = Unit {0}
Like xs ys [] (j ∷ js) = ⊥
Like xs ys (i ∷ is) [] = ⊥
Like xs ys (i ∷ is) (j ∷ js) = (j.ticket ≡ i.ticket) × (j.asked ≡ i.asked) × (MayBeFinished ys j → MayBeFinished xs i) × Like xs ys is js

like_then : (xs ys : List Back) (ds : List Delivery) (is ks js : List EntryValue) → Like xs ys is ks
    → AreFinishedBy ys ds ks js → AreFinishedBy xs ds is js
like_then xs ys [] [] [] [] l r = tt
like_then xs ys [] [] [] (j ∷ js) l r = (r.0, like_then xs ys [] [] [] js l r.1)
like_then xs ys [] [] (k ∷ ks) js l r = absurd l
like_then xs ys [] (i ∷ is) [] js l r = absurd l
like_then xs ys [] (i ∷ is) (k ∷ ks) [] l r = r
like_then xs ys [] (i ∷ is) (k ∷ ks) (j ∷ js) l r = (r.0 ∙ l.0, r.1 ∙ l.1, (λ e. l.2 (r.2 e)), like_then xs ys [] is ks js l.3 r.3)
like_then xs ys (d ∷ ds) [] [] js l r = (r.0, like_then xs ys ds [] [] js l r.1)
like_then xs ys (d ∷ ds) [] (k ∷ ks) js l r = absurd l
like_then xs ys (d ∷ ds) (i ∷ is) [] js l r = absurd l
like_then xs ys (d ∷ ds) (i ∷ is) (k ∷ ks) js l r = ((λ e. l.2 (r.0 e)), like_then xs ys ds is ks js l.3 r.1)

like_same : (xs : List Back) (is : List EntryValue) → Like xs xs is is
like_same xs [] = tt
like_same xs (i ∷ is) = (refl, refl, (λ r. r), like_same xs is)

record Keeps (xs ys : List Back) (i j : EntryValue) : Type 0 where
  pub ticket : j.ticket ≡ i.ticket
  pub asked : j.asked ≡ i.asked
  pub finished : MayBeFinished ys j → MayBeFinished xs i

like_map : (xs ys : List Back) (f : EntryValue → EntryValue) → ((i : EntryValue) → Keeps xs ys i (f i))
    → (is : List EntryValue) → Like xs ys is (map f is)
like_map xs ys f each [] = tt
like_map xs ys f each (i ∷ is) = let e = each i in (e.ticket, e.asked, e.finished, like_map xs ys f each is)

unchanged : (xs : List Back) (is : List EntryValue) → AreFinishedBy xs [] is is
unchanged xs [] = tt
unchanged xs (i ∷ is) = (refl, refl, (λ e. inl e), unchanged xs is)

-- An order finishes nothing.
order_one : (p : EntryValue → Bool) (i : EntryValue) → Keeps [] [] i (into_phase p Out i)
order_one p i = (elim (p i) as (λ b.
    Keeps [] [] i (if b then record { ticket = i.ticket; asked = i.asked; phase = Out; withdrawn = i.withdrawn } else i)) [
      | true ↦ record { ticket = refl; asked = refl; finished = ⊎_elim (λ e. absurd (true≢false (sym e))) (λ e. absurd (true≢false (sym e))) }
      | false ↦ record { ticket = refl; asked = refl; finished = λ r. r }
    ])

by_orders : (n : ℕ) (ds : List Delivery) (js : List EntryValue) (es : List Event) (s t : RoomLists) → AllOf is_ordered es → Leads
    es s t → AreFinishedBy [] ds (pending_at n t.content.queues) js → AreFinishedBy [] ds (pending_at n s.content.queues) js
by_orders n ds js [] s t a r g = subst (λ (u : RoomLists). AreFinishedBy [] ds (pending_at n u.content.queues) js) r g
by_orders n ds js (Orders job ∷ es) s t a r g =
    let h = by_orders n ds js es (after (Orders job) s) t a.1 r.1 g in
    like_then [] [] ds (pending_at n s.content.queues) (map (into_phase (waits_as job) Out) (pending_at n s.content.queues)) js
    (like_map [] [] (into_phase (waits_as job) Out) (order_one (waits_as job)) (pending_at n s.content.queues))
    (subst (λ is. AreFinishedBy [] ds is js) (pending_map (into_phase (waits_as job) Out) n s.content.queues) h)
by_orders n ds js (Hears b x ∷ es) s t a r g = absurd (true≢false (sym a.0))
by_orders n ds js (Takes m x ∷ es) s t a r g = absurd (true≢false (sym a.0))
by_orders n ds js (Gives m d ∷ es) s t a r g = absurd (true≢false (sym a.0))

-- Nor does a letter.
not_yet : (k : EntryValue) → is_finished k.phase ≡ false → (b : Bool) → (b ≡ true → MayBeFinished [] k) → b ≡ false
not_yet k f b h = not_true b (λ e. ⊎_elim (λ q. true≢false (sym q ∙ f)) (λ q. true≢false (sym q)) (h e))

drop_new : (ds : List Delivery) (is js : List EntryValue) (k : EntryValue) → is_finished k.phase ≡ false
    → AreFinishedBy [] ds (is ++ k ∷ []) js → AreFinishedBy [] ds is js
drop_new [] [] [] k f r = absurd r
drop_new [] [] (j ∷ js) k f r = (not_yet k f (is_finished j.phase) r.2, r.3)
drop_new [] (i ∷ is) [] k f r = r
drop_new [] (i ∷ is) (j ∷ js) k f r = (r.0, r.1, r.2, drop_new [] is js k f r.3)
drop_new (d ∷ ds) [] js k f r = (not_yet k f (is_answer d) r.0, r.1)
drop_new (d ∷ ds) (i ∷ is) js k f r = (r.0, drop_new ds is js k f r.1)

like_marked : (n : ℕ) (is : List EntryValue) → Like [] [] is (change_at n withdrawn is)
like_marked zero [] = tt
like_marked (suc n) [] = tt
like_marked zero (i ∷ is) = (refl, refl, (λ r. r), like_same [] is)
like_marked (suc n) (i ∷ is) = (refl, refl, (λ r. r), like_marked n is)

like_nth : (m : ℕ) (q : QueueValue) → Like [] [] q.pending (withdrawn_at m q).pending
like_nth m q = (elim (nat_lt m q.delivered) as (λ b. Like [] [] q.pending (if b then q else record {
  room = q.room;
  delivered =
      q.delivered;
  pending = change_at (m - q.delivered) withdrawn q.pending;
}).pending) [
  | true ↦ like_same [] q.pending
  | false ↦ like_marked (m - q.delivered) q.pending
])

by_record : (n m t : ℕ) (r : RecordValue) (ds : List Delivery) (qs : List QueueValue) (js : List EntryValue)
    → AreFinishedBy [] ds (pending_at n (change_at m (with_entry t r) qs)) js → AreFinishedBy [] ds (pending_at n qs) js
by_record n zero t r ds [] js g = g
by_record n (suc m) t r ds [] js g = g
by_record zero zero t r ds (q ∷ qs) js g = drop_new ds q.pending js _ refl g
by_record (suc n) zero t r ds (q ∷ qs) js g = g
by_record zero (suc m) t r ds (q ∷ qs) js g = g
by_record (suc n) (suc m) t r ds (q ∷ qs) js g = by_record n m t r ds qs js g

by_withdrawal : (n m k : ℕ) (ds : List Delivery) (qs : List QueueValue) (js : List EntryValue)
    → AreFinishedBy [] ds (pending_at n (change_at m (withdrawn_at k) qs)) js → AreFinishedBy [] ds (pending_at n qs) js
by_withdrawal n zero k ds [] js g = g
by_withdrawal n (suc m) k ds [] js g = g
by_withdrawal zero zero k ds (q ∷ qs) js g = like_then [] [] ds q.pending (withdrawn_at k q).pending js (like_nth k q) g
by_withdrawal (suc n) zero k ds (q ∷ qs) js g = g
by_withdrawal zero (suc m) k ds (q ∷ qs) js g = g
by_withdrawal (suc n) (suc m) k ds (q ∷ qs) js g = by_withdrawal n m k ds qs js g

by_letters : (n : ℕ) (ds : List Delivery) (js : List EntryValue) (es : List Event) (s t : RoomLists) → AllOf is_taken es → Leads
    es s t → AreFinishedBy [] ds (pending_at n t.content.queues) js → AreFinishedBy [] ds (pending_at n s.content.queues) js
by_letters n ds js [] s t a r g = subst (λ (u : RoomLists). AreFinishedBy [] ds (pending_at n u.content.queues) js) r g
by_letters n ds js (Takes m (Record x) ∷ es) s t a r g =
    by_record n m s.content.next x ds s.content.queues js (by_letters n ds js es (after (Takes m (Record x)) s) t a.1 r.1 g)
by_letters n ds js (Takes m (Withdrawal k) ∷ es) s t a r g =
    by_withdrawal n m k ds s.content.queues js (by_letters n ds js es (after (Takes m (Withdrawal k)) s) t a.1 r.1 g)
by_letters n ds js (Takes m Farewell ∷ es) s t a r g = by_letters n ds js es (after (Takes m Farewell) s) t a.1 r.1 g
by_letters n ds js (Hears b x ∷ es) s t a r g = absurd (true≢false (sym a.0))
by_letters n ds js (Orders job ∷ es) s t a r g = absurd (true≢false (sym a.0))
by_letters n ds js (Gives m d ∷ es) s t a r g = absurd (true≢false (sym a.0))

-- What is given as an answer was finished.
answer_of : (p : Phase) (w : Bool) (t : ℕ) (r : RecordValue) (d : Delivery) → (if w then not (is_out p) else is_finished p) ≡ true
    → (if w then Notice t r else Answer (answer_to r)) ≡ d → is_answer d ≡ true → is_finished p ≡ true
answer_of Waiting true t r d e g a = absurd (true≢false (sym a ∙ ap is_answer (sym g)))
answer_of Waiting false t r d e g a = absurd (cc)
answer_of Out true t r d e g a = absurd (cc)
answer_of Out false t r d e g a = absurd (cc)
answer_of Finished w t r d e g a = refl

answered : (d : Delivery) (is : List EntryValue) (ds : List Delivery) (js : List EntryValue) → delivery (ready_first is) ≡ Some d
    → AreFinishedBy [] ds (drop 1 is) js → AreFinishedBy [] (d ∷ ds) is js
answered d [] ds js h r = absurd (cc)
answered d (i ∷ is) ds js h r =
    let f = first_is d (i ∷ is) h in
    let own : f.entry ≡ i = cc in (
      (λ a. inl (ap (λ (e : EntryValue). is_finished e.phase) (sym own)
          ∙ answer_of f.entry.phase f.entry.withdrawn f.entry.ticket f.entry.asked d f.ready f.given a)),
      r,
    )

-- where one window gained, at its own list
record Given (n : ℕ) (s t : RoomLists) : Type 0 where
  pub more : List Delivery
  pub put : get_or t.put n [] ≡ get_or s.put n [] ++ more
  pub finished : AreFinishedBy [] more (pending_at n s.content.queues) (pending_at n t.content.queues)

given_first : (n m : ℕ) (d : Delivery) (ds : List Delivery) (ps ts : List (List Delivery)) (qs : List QueueValue)
    (js : List EntryValue) → m < length ps → delivery (ready_first (pending_at m qs)) ≡ Some d
    → get_or ts n [] ≡ get_or (change_at m (one_more d) ps) n [] ++ ds → AreFinishedBy [] ds (pending_at n (change_at m gone qs)) js
    → (more : List Delivery) × (get_or ts n [] ≡ get_or ps n [] ++ more) × AreFinishedBy [] more (pending_at n qs) js
given_first n m d ds [] ts qs js h e p r = absurd (omega arith)
given_first n zero d ds (x ∷ ps) ts [] js h e p r = absurd (cc)
given_first n (suc m) d ds (x ∷ ps) ts [] js h e p r = absurd (cc)
given_first zero zero d ds (x ∷ ps) ts (q ∷ qs) js h e p r = (d ∷ ds, p ∙ append_assoc x (d ∷ []) ds, answered d q.pending ds js e r)
given_first (suc n) zero d ds (x ∷ ps) ts (q ∷ qs) js h e p r = (ds, p, r)
given_first zero (suc m) d ds (x ∷ ps) ts (q ∷ qs) js h e p r = (ds, p, r)
given_first (suc n) (suc m) d ds (x ∷ ps) [] (q ∷ qs) js h e p r = let k = given_first n m d ds ps [] qs js (omega arith) e p r in (k.0, k.1, k.2)
given_first (suc n) (suc m) d ds (x ∷ ps) (y ∷ ts) (q ∷ qs) js h e p r = let k =
    given_first n m d ds ps ts qs js (omega arith) e p r in (k.0, k.1, k.2)

by_deliveries : (n : ℕ) (es : List Event) (s t : RoomLists) → AllOf is_given es → Leads es s t → Given n s t
by_deliveries n [] s t a r = subst (λ (u : RoomLists). Given n s u) (sym r)
    (record { more = []; put = sym (nil_append _); finished = unchanged [] (pending_at n s.content.queues) })
by_deliveries n (Gives m d ∷ es) s t a r =
    let g = by_deliveries n es (after (Gives m d) s) t a.1 r.1 in
    let e : delivery (ready_first (pending_at m s.content.queues)) ≡ Some d = ap delivery (sym (ready_at m s.content.queues)) ∙ r.0.1 in
    let k = given_first n m d g.more s.put t.put s.content.queues (pending_at n t.content.queues) r.0.0 e g.put
    (subst (λ qs. AreFinishedBy [] g.more (pending_at n qs) (pending_at n t.content.queues))
    (collected_is m d s.content.queues e) g.finished) in
    record { more = k.0; put = k.1; finished = k.2 }
by_deliveries n (Hears b x ∷ es) s t a r = absurd (true≢false (sym a.0))
by_deliveries n (Takes m x ∷ es) s t a r = absurd (true≢false (sym a.0))
by_deliveries n (Orders job ∷ es) s t a r = absurd (true≢false (sym a.0))

-- What is heard solved is finished, and what is heard returned is not.
heard_solved : (d : Task) (xs ys : List Back)
    → ((e : EntryValue) → list_any (λ x. solves x e) xs ≡ (solves (Solved d) e || list_any (λ x. solves x e) ys))
    → (i : EntryValue) → Keeps xs ys i (into_phase (is_out_with d) Finished i)
heard_solved d xs ys all i = (elim (is_out_with d i) as (λ b. is_out_with d i ≡ b → Keeps xs ys i
    (if b then record { ticket = i.ticket; asked = i.asked; phase = Finished; withdrawn = i.withdrawn } else i)) [
      | true ↦ λ e. record {
        ticket = refl;
        asked = refl;
        finished = λ r. inr (all i ∙ or_left (has_task d i) _ (and_both (is_out i.phase) (has_task d i) e).1);
      }
      | false ↦ λ e. record { ticket = refl; asked = refl; finished = ⊎_elim (λ q. inl q) (λ q. inr (all i ∙ or_right (has_task d i) _ q)) }
    ]) refl

solves_moved : (ph : Phase) (ys : List Back) (i : EntryValue) → list_any (λ x. solves x
    (record { ticket = i.ticket; asked = i.asked; phase = ph; withdrawn = i.withdrawn })) ys ≡ list_any (λ x. solves x i) ys
solves_moved ph [] i = refl
solves_moved ph (Solved d ∷ ys) i = ap (λ b. has_task d i || b) (solves_moved ph ys i)
solves_moved ph (Returned j ∷ ys) i = solves_moved ph ys i

heard_returned : (j : Task) (xs ys : List Back) → ((e : EntryValue) → list_any (λ x. solves x e) xs
    ≡ (false || list_any (λ x. solves x e) ys)) → (i : EntryValue) → Keeps xs ys i (into_phase (is_out_with j) Waiting i)
heard_returned j xs ys all i = (elim (is_out_with j i) as (λ b.
    Keeps xs ys i (if b then record { ticket = i.ticket; asked = i.asked; phase = Waiting; withdrawn = i.withdrawn } else i)) [
      | true ↦ record {
        ticket = refl;
        asked = refl;
        finished = ⊎_elim (λ q. absurd (true≢false (sym q))) (λ q. inr (all i ∙ (sym (solves_moved Waiting ys i) ∙ q)));
      }
      | false ↦ record {
        ticket = refl;
        asked = refl;
        finished = ⊎_elim (λ q. inl q) (λ q. let g : list_any (λ x. solves x i) ys ≡ true = q in inr (all i ∙ g));
      }
    ])

record Heard (n : ℕ) (ds : List Delivery) (js : List EntryValue) (s t : RoomLists) : Type 0 where
  pub grown : Grown s.heard t.heard
  pub finished : AreFinishedBy (gained s.heard t.heard) ds (pending_at n s.content.queues) js

by_backs : (n : ℕ) (ds : List Delivery) (js : List EntryValue) (es : List Event) (s t : RoomLists) → AllOf is_heard es
    → Leads es s t → AreFinishedBy [] ds (pending_at n t.content.queues) js → Heard n ds js s t
by_backs n ds js [] s t a r g =
    subst (λ (u : RoomLists). Heard n ds js s u) (sym r) (record {
      grown = grown_same s.heard;
      finished = rw (none_gained s.heard) (subst (λ (u : RoomLists). AreFinishedBy [] ds (pending_at n u.content.queues) js) r g);
    })
by_backs n ds js (Hears b (Solved d) ∷ es) s t a r g =
    let h = by_backs n ds js es (after (Hears b (Solved d)) s) t a.1 r.1 g in
    let xs = gained s.heard t.heard in
    let ys = gained (change_at b (one_more (Solved d)) s.heard) t.heard in
    record {
      grown = grown_change (Solved d) b s.heard t.heard h.grown;
      finished = like_then xs ys ds (pending_at n s.content.queues) (map (into_phase (is_out_with d) Finished) (pending_at n s.content.queues)) js
          (like_map xs ys (into_phase (is_out_with d) Finished) (heard_solved d xs ys
          (λ e. any_more (λ x. solves x e) (Solved d) b s.heard t.heard r.0 h.grown)) (pending_at n s.content.queues))
          (subst (λ is. AreFinishedBy ys ds is js) (pending_map (into_phase (is_out_with d) Finished) n s.content.queues) h.finished);
    }
by_backs n ds js (Hears b (Returned j) ∷ es) s t a r g =
    let h = by_backs n ds js es (after (Hears b (Returned j)) s) t a.1 r.1 g in
    let xs = gained s.heard t.heard in
    let ys = gained (change_at b (one_more (Returned j)) s.heard) t.heard in
    record {
      grown = grown_change (Returned j) b s.heard t.heard h.grown;
      finished = like_then xs ys ds (pending_at n s.content.queues) (map (into_phase (is_out_with j) Waiting) (pending_at n s.content.queues)) js
          (like_map xs ys (into_phase (is_out_with j) Waiting) (heard_returned j xs ys
          (λ e. any_more (λ x. solves x e) (Returned j) b s.heard t.heard r.0 h.grown)) (pending_at n s.content.queues))
          (subst (λ is. AreFinishedBy ys ds is js) (pending_map (into_phase (is_out_with j) Waiting) n s.content.queues) h.finished);
    }
by_backs n ds js (Takes m x ∷ es) s t a r g = absurd (true≢false (sym a.0))
by_backs n ds js (Orders job ∷ es) s t a r g = absurd (true≢false (sym a.0))
by_backs n ds js (Gives m d ∷ es) s t a r g = absurd (true≢false (sym a.0))

-- through a turn
pub turned_finished : (s t : RoomLists) (c : Turn) → Turned s t c → (n : ℕ) → AreFinishedBy (gained s.heard t.heard)
    (drop (length (get_or s.put n [])) (get_or t.put n [])) (pending_at n s.content.queues) (pending_at n t.content.queues)
turned_finished s t u r n =
    let a = r.after_hearing in
    let b = r.after_taking in
    let c = r.after_ordering in
    let h = r.heard in
    let k = r.taken in
    let o = r.ordered in
    let g = r.given in
    let last = by_deliveries n g.events c t g.kind g.leads in
    let js = pending_at n t.content.queues in
    let third = by_orders n last.more js o.events b c o.kind o.leads last.finished in
    let second = by_letters n last.more js k.events a b k.kind k.leads third in
    let first = by_backs n last.more js h.events s a h.kind h.leads second in
    let heard : t.heard ≡ a.heard = run_same (λ x. x.heard) is_given given_heard g.events c t g.kind g.leads
    ∙ (run_same (λ x. x.heard) is_ordered ordered_heard o.events b c o.kind o.leads
    ∙ run_same (λ x. x.heard) is_taken taken_heard k.events a b k.kind k.leads) in
    let put : c.put ≡ s.put = run_same (λ x. x.put) is_ordered ordered_put o.events b c o.kind o.leads ∙ (run_same (λ x. x.put)
    is_taken taken_put k.events a b k.kind k.leads ∙ run_same (λ x. x.put) is_heard heard_put h.events s a h.kind h.leads) in
    let cut : drop (length (get_or s.put n [])) (get_or t.put n []) ≡ last.more =
    ap (λ ps. drop (length (get_or ps n [])) (get_or t.put n [])) (sym put)
    ∙ (ap (drop (length (get_or c.put n []))) last.put ∙ drop_all (get_or c.put n []) last.more) in
    subst (λ ds. AreFinishedBy (gained s.heard t.heard) ds (pending_at n s.content.queues) js) (sym cut)
    (subst (λ hs. AreFinishedBy (gained s.heard hs) last.more (pending_at n s.content.queues) js) (sym heard) first.finished)
