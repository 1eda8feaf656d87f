-- The first pending record of a queue, and what becomes of the queue where it is collected.
use Rattle.std.proofs.Common.{◌≡◌, ◌≢◌, ℕ, zero, suc, ◌+◌, ◌<◌, ◌≤◌, List, [], ◌∷◌, ◌++◌, length, map}
use Rattle.std.proofs.Common.{take, drop, slice_get, Bool, true, false, not, ap, refl, sym, ◌∙◌, subst}
use Rattle.std.proofs.Common.{arith, None, Some, ◌||◌, if◌then◌else◌, ◌==◌, add-one, length-append}
use Rattle.std.specs.List.{list_any}
use Rattle.std.proofs.lemmas.Bool.Decides.{nat_tests}
use Rattle.chess_notation.specs.Records.{RecordValue, Reads}
use Rattle.mate_jobs.specs.Jobs.{Task}
use Rattle.mate_desk.specs.Content.{EntryValue, QueueValue, Phase, Waiting, Out, Finished, is_out, is_finished, is_ready, is_out_with}
use Rattle.mate_desk.specs.Calls.{change_at, collected, collected_by}
use Rattle.mate_desk.specs.History.{History, Claim, Parcel, accepted, delivered, phase, withdrawn, is_notice}
use Rattle.mate_desk.specs.Headline.{AreForFirst, IsFor}
use Rattle.mate_desk.specs.Replies.{from}
use Rattle.mate_desk.specs.inside.Mirrors.{entry_at, entries_from, queue_with, queue_of, are_settled, AreRead, AreNoticesMarked, Sound}
use Rattle.mate_desk.proofs.Each.{change_from}
use Rattle.mate_desk.proofs.PhaseChanges.{and_both, both_of}

-- What is pending begins with the first record that was not delivered.
pub pending_some : (asks : ℕ → RecordValue) (phases : ℕ → Phase) (marks : ℕ → Bool) (j d : ℕ) (claims : List Claim)
    (claim : Claim) → slice_get claims d ≡ Some claim → entries_from asks phases marks j (drop d claims)
    ≡ entry_at asks phases marks j claim ∷ entries_from asks phases marks (j + 1) (drop (suc d) claims)
pending_some asks phases marks j d [] claim e = cc
pending_some asks phases marks j zero (k ∷ ks) claim e = let q : k ≡ claim = cc in
    ap (λ (k : Claim). entry_at asks phases marks j k ∷ entries_from asks phases marks (j + 1) ks) q
pending_some asks phases marks j (suc d) (k ∷ ks) claim e = pending_some asks phases marks j d ks claim e

pub pending_none : (asks : ℕ → RecordValue) (phases : ℕ → Phase) (marks : ℕ → Bool) (j d : ℕ) (claims : List Claim)
    → slice_get claims d ≡ None → entries_from asks phases marks j (drop d claims) ≡ []
pending_none asks phases marks j zero [] e = refl
pending_none asks phases marks j (suc d) [] e = refl
pending_none asks phases marks j zero (k ∷ ks) e = cc
pending_none asks phases marks j (suc d) (k ∷ ks) e = pending_none asks phases marks j d ks e

get_below : {A : Type 0} (xs : List A) (k : ℕ) (x : A) → slice_get xs k ≡ Some x → k < length xs
get_below [] k x e = cc
get_below (y ∷ ys) zero x e = omega arith
get_below (y ∷ ys) (suc k) x e = let h = get_below ys k x e in omega (arith, h)

take_get : {A : Type 0} (xs : List A) (k : ℕ) (x : A) → slice_get xs k ≡ Some x → take (suc k) xs ≡ take k xs ++ x ∷ []
take_get [] k x e = cc
take_get (y ∷ ys) zero x e = let q : y ≡ x = cc in ap (λ z. z ∷ []) q
take_get (y ∷ ys) (suc k) x e = ap (λ zs. y ∷ zs) (take_get ys k x e)

take_full : {A : Type 0} (k : ℕ) (xs : List A) → k ≤ length xs → length (take k xs) ≡ k
take_full zero xs h = refl
take_full (suc k) [] h = absurd (omega arith)
take_full (suc k) (x ∷ xs) h = ap suc (take_full k xs (omega arith))

-- What a line says that was accepted is what its ticket asks.
pub read_at : (default : ℕ) (asks : ℕ → RecordValue) (claims : List Claim) (k : ℕ) (claim : Claim) → AreRead default asks claims
    → slice_get claims k ≡ Some claim → Reads claim.line default (asks claim.ticket)
read_at default asks [] k claim r e = cc
read_at default asks (c ∷ cs) zero claim r e = let q : c ≡ claim = cc in subst (λ (c : Claim). Reads c.line default (asks c.ticket)) q r.0
read_at default asks (c ∷ cs) (suc k) claim r e = read_at default asks cs k claim r.1 e

settled_push : (phases : ℕ → Phase) (marks : ℕ → Bool) (j : ℕ) (claims : List Claim) (claim : Claim)
    → are_settled phases marks j claims ≡ true → (marks (j + length claims) || is_finished (phases claim.ticket)) ≡ true
    → are_settled phases marks j (claims ++ claim ∷ []) ≡ true
settled_push phases marks j [] claim s e = let z : j + 0 ≡ j = omega arith in
    and_both _ true (ap (λ i. marks i || is_finished (phases claim.ticket)) (sym z) ∙ e) refl
settled_push phases marks j (c ∷ cs) claim s e =
    let h = both_of (marks j || is_finished (phases c.ticket)) _ s in
    let z : j + suc (length cs) ≡ j + 1 + length cs = omega arith in
    and_both _ _ h.0 (settled_push phases marks (j + 1) cs claim h.1 (ap (λ i. marks i || is_finished (phases claim.ticket)) (sym z) ∙ e))

-- one parcel more, for the first record that was not delivered
for_first_more : (default : ℕ) (claims : List Claim) (parcels : List Parcel) (claim : Claim) (parcel : Parcel)
    → slice_get claims (length parcels) ≡ Some claim → IsFor default claim parcel → AreForFirst default claims parcels
    → AreForFirst default claims (parcels ++ parcel ∷ [])
for_first_more default [] [] claim parcel e is f = cc
for_first_more default (c ∷ cs) [] claim parcel e is f = let q : claim ≡ c = cc in (subst (λ c. IsFor default c parcel) q is, tt)
for_first_more default [] (p ∷ ps) claim parcel e is f = absurd f
for_first_more default (c ∷ cs) (p ∷ ps) claim parcel e is f = (f.0, for_first_more default cs ps claim parcel e is f.1)

notices_more : (marks : ℕ → Bool) (j : ℕ) (parcels : List Parcel) (parcel : Parcel) → is_notice parcel
    ≡ marks (j + length parcels) → AreNoticesMarked marks j parcels → AreNoticesMarked marks j (parcels ++ parcel ∷ [])
notices_more marks j [] parcel e a = let z : j + 0 ≡ j = omega arith in (e ∙ ap marks z, tt)
notices_more marks j (p ∷ ps) parcel e a = let z : j + suc (length ps) ≡ j + 1 + length ps = omega arith in
    (a.0, notices_more marks (j + 1) ps parcel (e ∙ ap marks z) a.1)

ready_settled : (b : Bool) (p : Phase) → (if b then not (is_out p) else is_finished p) ≡ true → (b || is_finished p) ≡ true
ready_settled true p e = refl
ready_settled false p e = e

pub sound_delivered : (room default : ℕ) (asks : ℕ → RecordValue) (claims : List Claim) (parcels : List Parcel) (g : ℕ)
    (phases : ℕ → Phase) (marks : ℕ → Bool) (claim : Claim) (parcel : Parcel) → slice_get claims (length parcels) ≡ Some claim
    → is_ready (entry_at asks phases marks (length parcels) claim) ≡ true → IsFor default claim parcel → is_notice parcel ≡ marks (length parcels)
    → Sound room default asks claims parcels g phases marks → Sound room default asks claims (parcels ++ parcel ∷ []) g phases marks
sound_delivered room default asks claims parcels g phases marks claim parcel at ready is notice s =
    let d : ℕ = length parcels in
    let l : length (parcels ++ parcel ∷ []) ≡ suc d = length-append parcels (parcel ∷ []) ∙ omega arith in
    let f : d < length claims = get_below claims d claim at in
    let t : take (length (parcels ++ parcel ∷ [])) claims ≡ take d claims ++ claim ∷ [] = ap (λ k. take k claims) l ∙ take_get claims d claim at in
    let z : 0 + length (take d claims) ≡ d = (let y = take_full d claims (omega arith) in omega (arith, y)) in
    let y : 0 + d ≡ d = omega arith in
    let one : (marks d || is_finished (phases claim.ticket)) ≡ true = ready_settled (marks d) (phases claim.ticket) ready in
    record {
      few = omega (arith, l, f);
      fits = omega (arith, l, s.fits);
      below = s.below;
      read = s.read;
      unmarked = s.unmarked;
      settled = ap (are_settled phases marks 0) t ∙ settled_push phases marks 0 (take d claims) claim s.settled
          (ap (λ i. marks i || is_finished (phases claim.ticket)) z ∙ one);
      in_order = for_first_more default claims parcels claim parcel at is s.in_order;
      notices = notices_more marks 0 parcels parcel (notice ∙ ap marks (sym y)) s.notices;
    }

queue_delivered : (asks : ℕ → RecordValue) (room d e : ℕ) (phases : ℕ → Phase) (marks : ℕ → Bool) (claims : List Claim)
    (claim : Claim) → slice_get claims d ≡ Some claim → is_ready (entry_at asks phases marks d claim) ≡ true → e ≡ suc d
    → collected (queue_with asks room claims d phases marks) ≡ queue_with asks room claims e phases marks
queue_delivered asks room d e phases marks claims claim at ready l =
    let p = pending_some asks phases marks d d claims claim at in
    let k : QueueValue = record {
      room = room;
      delivered = d;
      pending = entry_at asks phases marks d claim ∷ entries_from asks phases marks (d + 1) (drop (suc d) claims);
    } in
    let q : collected (queue_with asks room claims d phases marks) ≡ collected k = ap (λ (es : List EntryValue).
    (let m : QueueValue = record { room = room; delivered = d; pending = es } in collected m)) p in
    let r : collected k ≡ queue_with asks room claims (suc d) phases marks = rw ready (rw add-one refl) in
    q ∙ (r ∙ ap (λ i. queue_with asks room claims i phases marks) (sym l))

pub queues_delivered : (asks : ℕ → RecordValue) (room : ℕ) (h : History) (s n : ℕ) (parcel : Parcel) (claim : Claim)
    → slice_get (accepted h s) (length (delivered h s)) ≡ Some claim
    → is_ready (entry_at asks (phase h) (withdrawn h s) (length (delivered h s)) claim) ≡ true
    → change_at s collected (map (queue_of asks room h) (from 0 n)) ≡ map (λ i. queue_with asks room (accepted h i)
    (length (if i == s then delivered h i ++ parcel ∷ [] else delivered h i)) (phase h) (withdrawn h i)) (from 0 n)
queues_delivered asks room h s n parcel claim at ready =
    let new : ℕ → QueueValue = λ i. queue_with asks room (accepted h i)
    (length (if i == s then delivered h i ++ parcel ∷ [] else delivered h i)) (phase h) (withdrawn h i) in
    let z : 0 + s ≡ s = omega arith in
    let q : (s == s) ≡ true = grind (arith, nat_tests) in
    let l : length (delivered h s ++ parcel ∷ []) ≡ suc (length (delivered h s)) = length-append (delivered h s) (parcel ∷ []) ∙ omega arith in
    let here : collected (queue_of asks room h s)
    ≡ queue_with asks room (accepted h s) (length (delivered h s ++ parcel ∷ [])) (phase h) (withdrawn h s) =
    queue_delivered asks room (length (delivered h s)) _ (phase h) (withdrawn h s) (accepted h s) claim at ready l in
    let one : collected (queue_of asks room h s) ≡ new s =
    subst (λ b. collected (queue_of asks room h s) ≡ queue_with asks room (accepted h s)
    (length (if b then delivered h s ++ parcel ∷ [] else delivered h s)) (phase h) (withdrawn h s)) (sym q) here in
    change_from (queue_of asks room h) new collected 0 n s
    (λ i far. (let f : (i == s) ≡ false = (let y : i ≢ s = λ p. far (p ∙ sym z) in grind (arith, nat_tests, y)) in
    subst (λ b. queue_of asks room h i ≡ queue_with asks room (accepted h i)
    (length (if b then delivered h i ++ parcel ∷ [] else delivered h i)) (phase h) (withdrawn h i)) (sym f) refl))
    (subst (λ i. collected (queue_of asks room h i) ≡ new i) (sym z) one)

ready_not_out : (b : Bool) (p : Phase) → (if b then not (is_out p) else is_finished p) ≡ true → is_out p ≡ false
ready_not_out true Waiting e = refl
ready_not_out true Out e = cc
ready_not_out true Finished e = refl
ready_not_out false Waiting e = cc
ready_not_out false Out e = cc
ready_not_out false Finished e = refl

any_collected : (task : Task) (room d : ℕ) (es : List EntryValue) → list_any (is_out_with task) es ≡ true → list_any (is_out_with
    task) (collected (let q : QueueValue = record { room = room; delivered = d; pending = es } in q)).pending ≡ true
any_collected task room d [] e = cc
any_collected task room d (x ∷ es) e =
    (elim (is_ready x) as (λ b. is_ready x ≡ b → list_any (is_out_with task) (collected_by (if b then Some x else None)
    (let q : QueueValue = record { room = room; delivered = d; pending = x ∷ es } in q)).pending ≡ true) [
      | true ↦ λ w.
          let o = ready_not_out x.withdrawn x.phase w in
          let n : is_out_with task x ≡ false = rw o refl in
          rw n at e
      | false ↦ λ w. e
    ]) refl

pub out_collected : (task : Task) (q : QueueValue) → list_any (is_out_with task) q.pending ≡ true
    → list_any (is_out_with task) (collected q).pending ≡ true
out_collected task q y = any_collected task q.room q.delivered q.pending y
