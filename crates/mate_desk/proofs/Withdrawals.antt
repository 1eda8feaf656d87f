-- A record is withdrawn.
use Rattle.std.proofs.Common.{◌≡◌, ◌≢◌, ℕ, zero, suc, ◌+◌, ◌-◌, ◌<◌, ◌≤◌, List, [], ◌∷◌, length, map, take}
use Rattle.std.proofs.Common.{drop, slice_get, Bool, true, false, ap, refl, sym, ◌∙◌, subst, arith, None}
use Rattle.std.proofs.Common.{Some, Option, nat_lt, nat_le, ◌||◌, ◌&&◌, if◌then◌else◌, ◌==◌}
use Rattle.std.specs.List.{list_any}
use Rattle.std.specs.Option.{option_map}
use Rattle.std.proofs.lemmas.Bool.Decides.{nat_tests}
use Rattle.chess_notation.specs.Records.{RecordValue}
use Rattle.mate_jobs.specs.Jobs.{Task}
use Rattle.mate_desk.specs.Content.{Content, EntryValue, QueueValue, Phase, is_out_with, is_finished}
use Rattle.mate_desk.specs.Calls.{change_at, withdrawn as mark, withdrawn_at, after_withdraw}
use Rattle.mate_desk.specs.Calls.{withdraw_refusal, withdraw_refusal_of, withdraw_refusal_by}
use Rattle.mate_desk.specs.declared.refusals.WithdrawRefusal.{WithdrawRefusal}
use Rattle.mate_desk.specs.declared.refusals.WithdrawRefusal.TheVariants as kept
use Rattle.mate_desk.specs.History.{History, Claim, Parcel, accepted, delivered, phase, withdrawn, count_accepted, is_notice}
use Rattle.mate_desk.specs.Replies.{from, withdraw_reply}
use Rattle.mate_desk.specs.inside.Mirrors.{entry_at, entries_from, queue_with, queue_of, are_settled, AreNoticesMarked, Sound, MirrorsBy, Makes}
use Rattle.mate_desk.specs.declared.steps_and_replies.Reply.{Reply}
use Rattle.mate_desk.specs.declared.steps_and_replies.Step.TheVariants as step
use Rattle.mate_desk.specs.declared.steps_and_replies.Reply.TheVariants as reply
use Rattle.mate_desk.proofs.Each.{change_from}
use Rattle.mate_desk.proofs.Hands.{out_kept}
use Rattle.mate_desk.proofs.Leaving.{and_fixed}
use Rattle.mate_desk.proofs.Acceptances.{out_change}
use Rattle.mate_desk.proofs.Submissions.{length_queue, queue_known, queue_unknown}

-- the marks with one more
abbrev pub marking : (ℕ → Bool) → ℕ → ℕ → Bool
marking marks k i = (i == k) || marks i

apart_from : (i k : ℕ) → i ≢ k → (i == k) ≡ false
apart_from i k n = grind (arith, nat_tests, n)

marks_past : (asks : ℕ → RecordValue) (phases : ℕ → Phase) (marks : ℕ → Bool) (j k : ℕ) (claims : List Claim) → k < j
    → entries_from asks phases marks j claims ≡ entries_from asks phases (marking marks k) j claims
marks_past asks phases marks j k [] h = refl
marks_past asks phases marks j k (claim ∷ claims) h =
    let q = apart_from j k (λ r. omega (arith, h, r)) in
    rw q (ap (λ es. entry_at asks phases marks j claim ∷ es) (marks_past asks phases marks (j + 1) k claims (omega arith)))

-- where a record is withdrawn
mark_entries : (asks : ℕ → RecordValue) (phases : ℕ → Phase) (marks : ℕ → Bool) (j m k : ℕ) (claims : List Claim) → k ≡ j + m
    → change_at m mark (entries_from asks phases marks j claims) ≡ entries_from asks phases (marking marks k) j claims
mark_entries asks phases marks j m k [] e = refl
mark_entries asks phases marks j zero k (claim ∷ claims) e =
    let q : (j == k) ≡ true = (let p : j ≡ k = omega (arith, e) in grind (arith, nat_tests, p)) in
    rw q (ap (λ es. (let x : EntryValue = record {
      ticket = claim.ticket;
      asked = asks claim.ticket;
      phase = phases claim.ticket;
      withdrawn = true;
    } in x) ∷ es) (marks_past asks phases marks (j + 1) k claims (omega (arith, e))))
mark_entries asks phases marks j (suc m) k (claim ∷ claims) e =
    let q = apart_from j k (λ r. omega (arith, e, r)) in
    rw q (ap (λ es. entry_at asks phases marks j claim ∷ es) (mark_entries asks phases marks (j + 1) m k claims (omega (arith, e))))

-- Nothing changes before it.
settled_before : (phases : ℕ → Phase) (marks : ℕ → Bool) (j k : ℕ) (claims : List Claim) → j + length claims ≤ k
    → are_settled phases (marking marks k) j claims ≡ are_settled phases marks j claims
settled_before phases marks j k [] h = refl
settled_before phases marks j k (claim ∷ claims) h =
    let q = apart_from j k (λ r. omega (arith, h, r)) in
    rw q (ap (λ b. (marks j || is_finished (phases claim.ticket)) && b) (settled_before phases marks (j + 1) k claims (omega arith)))

notices_before : (marks : ℕ → Bool) (j k : ℕ) (parcels : List Parcel) → j + length parcels ≤ k → AreNoticesMarked marks j parcels
    → AreNoticesMarked (marking marks k) j parcels
notices_before marks j k [] h a = tt
notices_before marks j k (parcel ∷ parcels) h a =
    let q = apart_from j k (λ r. omega (arith, h, r)) in
    (subst (λ b. is_notice parcel ≡ (b || marks j)) (sym q) a.0, notices_before marks (j + 1) k parcels (omega arith) a.1)

take_few : {A : Type 0} (d : ℕ) (xs : List A) → length (take d xs) ≤ d
take_few zero xs = omega arith
take_few (suc d) [] = omega arith
take_few (suc d) (x ∷ xs) = let h = take_few d xs in omega (arith, h)

sound_marked : (room default : ℕ) (asks : ℕ → RecordValue) (claims : List Claim) (parcels : List Parcel) (g : ℕ)
    (phases : ℕ → Phase) (marks : ℕ → Bool) (k : ℕ) → length parcels ≤ k → k < length claims
    → Sound room default asks claims parcels g phases marks → Sound room default asks claims parcels g phases (marking marks k)
sound_marked room default asks claims parcels g phases marks k from_here inside s =
    let few = take_few (length parcels) claims in
    record {
      few = s.few;
      fits = s.fits;
      below = s.below;
      read = s.read;
      in_order = s.in_order;
      unmarked = λ j h. (let q = apart_from j k (λ r. omega (arith, h, r, inside)) in rw q (s.unmarked j h));
      settled = settled_before phases marks 0 k (take (length parcels) claims) (omega (arith, few)) ∙ s.settled;
      notices = notices_before marks 0 k parcels (omega arith) s.notices;
    }

abbrev pub withdrawal_reply : Option WithdrawRefusal → Reply
withdrawal_reply None = reply.Withdrawn
withdrawal_reply (Some r) = reply.NotWithdrawn r

get_entry : (asks : ℕ → RecordValue) (phases : ℕ → Phase) (marks : ℕ → Bool) (j m : ℕ) (claims : List Claim) → slice_get
    (entries_from asks phases marks j claims) m ≡ option_map (entry_at asks phases marks (j + m)) (slice_get claims m)
get_entry asks phases marks j m [] = refl
get_entry asks phases marks j zero (claim ∷ claims) = let e : j ≡ j + 0 = omega arith in ap (λ i. Some (entry_at asks phases marks i claim)) e
get_entry asks phases marks j (suc m) (claim ∷ claims) = let e : j + 1 + m ≡ j + suc m = omega arith in
    get_entry asks phases marks (j + 1) m claims ∙ ap (λ i. option_map (entry_at asks phases marks i) (slice_get claims m)) e

get_dropped : {A : Type 0} (d m : ℕ) (xs : List A) → slice_get (drop d xs) m ≡ slice_get xs (d + m)
get_dropped zero m xs = let e : m ≡ 0 + m = omega arith in ap (slice_get xs) e
get_dropped (suc d) m [] = refl
get_dropped (suc d) m (x ∷ xs) = let e : suc (d + m) ≡ suc d + m = omega arith in get_dropped d m xs ∙ ap (slice_get (x ∷ xs)) e

get_inside : {A : Type 0} (xs : List A) (k : ℕ) → k < length xs → (x : A) × (slice_get xs k ≡ Some x)
get_inside [] k h = absurd (omega arith)
get_inside (x ∷ xs) zero h = (x, refl)
get_inside (x ∷ xs) (suc k) h = get_inside xs k (omega arith)

-- the reply to a withdrawal from a queue
abbrev pub reply_at : History → ℕ → ℕ → Reply
reply_at h s k = if nat_le (length (accepted h s)) k then reply.NotWithdrawn kept.NotAccepted
    else (if nat_lt k (length (delivered h s)) then reply.NotWithdrawn kept.Delivered
    else (if withdrawn h s k then reply.NotWithdrawn kept.Withdrawn else reply.Withdrawn))

refusal_of : (asks : ℕ → RecordValue) (room : ℕ) (h : History) (s k : ℕ) → length (delivered h s) ≤ length (accepted h s)
    → withdrawal_reply (withdraw_refusal_of (Some (queue_of asks room h s)) k) ≡ reply_at h s k
refusal_of asks room h s k few =
    let d : ℕ = length (delivered h s) in
    let all : d + length (queue_of asks room h s).pending ≡ length (accepted h s) = omega (arith, length_queue asks room h s, few) in
    rw all ((elim (nat_le (length (accepted h s)) k) as (λ b. nat_le (length (accepted h s)) k ≡ b
    → withdrawal_reply (if b then Some kept.NotAccepted else (if nat_lt k d then Some kept.Delivered
    else withdraw_refusal_by (slice_get (queue_of asks room h s).pending (k - d))))
    ≡ (if b then reply.NotWithdrawn kept.NotAccepted else (if nat_lt k d then reply.NotWithdrawn kept.Delivered
    else (if withdrawn h s k then reply.NotWithdrawn kept.Withdrawn else reply.Withdrawn)))) [
      | true ↦ λ v. refl
      | false ↦ λ v. (elim (nat_lt k d) as (λ b. nat_lt k d ≡ b → withdrawal_reply (if b then Some kept.Delivered
          else withdraw_refusal_by (slice_get (queue_of asks room h s).pending (k - d))) ≡ (if b then reply.NotWithdrawn
          kept.Delivered else (if withdrawn h s k then reply.NotWithdrawn kept.Withdrawn else reply.Withdrawn))) [
            | true ↦ λ w. refl
            | false ↦ λ w.
                let y : d ≤ k = grind (arith, nat_tests, w) in
                let z : d + (k - d) ≡ k = omega (arith, y) in
                let g : slice_get (queue_of asks room h s).pending (k - d) ≡ option_map (entry_at asks (phase h) (withdrawn h s) k)
                (slice_get (accepted h s) k) = get_entry asks (phase h) (withdrawn h s) d (k - d) (drop d (accepted h s))
                ∙ (ap (option_map (entry_at asks (phase h) (withdrawn h s) (d + (k - d)))) (get_dropped d (k - d) (accepted h s))
                ∙ ap (λ i. option_map (entry_at asks (phase h) (withdrawn h s) i) (slice_get (accepted h s) i)) z) in
                let o = get_inside (accepted h s) k (grind (arith, nat_tests, v)) in
                rw (g, o.1) (elim (withdrawn h s k) as (λ b. withdrawal_reply (if b then Some kept.Withdrawn else None)
                ≡ (if b then reply.NotWithdrawn kept.Withdrawn else reply.Withdrawn)) [ true ↦ refl | false ↦ refl ])
          ]) refl
    ]) refl)

withdraw_is : (asks : ℕ → RecordValue) (n room default : ℕ) (h : History) (c : Content) (jobs : List Task) (s k : ℕ)
    → MirrorsBy asks n room default h c jobs → withdrawal_reply (withdraw_refusal c s k) ≡ withdraw_reply n h s k
withdraw_is asks n room default h c jobs s k m = (elim (nat_le n s) as (λ b. nat_le n s ≡ b
    → withdrawal_reply (withdraw_refusal c s k) ≡ (if b then reply.NotWithdrawn kept.NoSuchSubmitter else reply_at h s k)) [
      | true ↦ λ w. let g = queue_unknown asks n room default h c jobs s m (grind (arith, nat_tests, w)) in rw g refl
      | false ↦ λ w.
          let g = queue_known asks n room default h c jobs s m (grind (arith, nat_tests, w)) in
          ap (λ (q : Option QueueValue). withdrawal_reply (withdraw_refusal_of q k)) g ∙ refusal_of asks room h s k (m.sound s).few
    ]) refl

-- what an accepted withdrawal says of its place
record IsPlaceOf (h : History) (s k : ℕ) : Type 0 where
  inside : k < length (accepted h s)
  due : length (delivered h s) ≤ k

place_of : (n : ℕ) (h : History) (s k : ℕ) → withdraw_reply n h s k ≡ reply.Withdrawn → IsPlaceOf h s k
place_of n h s k e = (elim (nat_le n s) as (λ b.
    (if b then reply.NotWithdrawn kept.NoSuchSubmitter else reply_at h s k) ≡ reply.Withdrawn → IsPlaceOf h s k) [
      | true ↦ λ f. cc
      | false ↦ λ f. (elim (nat_le (length (accepted h s)) k) as (λ b. nat_le (length (accepted h s)) k ≡ b
          → (if b then reply.NotWithdrawn kept.NotAccepted else (if nat_lt k (length (delivered h s)) then reply.NotWithdrawn
          kept.Delivered else (if withdrawn h s k then reply.NotWithdrawn kept.Withdrawn else reply.Withdrawn)))
          ≡ reply.Withdrawn → IsPlaceOf h s k) [
            | true ↦ λ v g. cc
            | false ↦ λ v g. (elim (nat_lt k (length (delivered h s))) as (λ b. nat_lt k (length (delivered h s)) ≡ b
                → (if b then reply.NotWithdrawn kept.Delivered else (if withdrawn h s k then reply.NotWithdrawn kept.Withdrawn
                else reply.Withdrawn)) ≡ reply.Withdrawn → IsPlaceOf h s k) [
                  | true ↦ λ u y. cc
                  | false ↦ λ u y. record { inside = grind (arith, nat_tests, v); due = grind (arith, nat_tests, u) }
                ]) refl g
          ]) refl f
    ]) e

queue_marked : (asks : ℕ → RecordValue) (room : ℕ) (claims : List Claim) (d k : ℕ) (phases : ℕ → Phase) (marks : ℕ → Bool) → d ≤ k
    → withdrawn_at k (queue_with asks room claims d phases marks) ≡ queue_with asks room claims d phases (marking marks k)
queue_marked asks room claims d k phases marks due =
    let q : nat_lt k d ≡ false = grind (arith, nat_tests, due) in
    let y : k ≡ d + (k - d) = omega (arith, due) in
    rw q (ap (λ (es : List EntryValue). (let z : QueueValue = record { room = room; delivered = d; pending = es } in z))
    (mark_entries asks phases marks d (k - d) k (drop d claims) y))

queues_marked : (asks : ℕ → RecordValue) (room : ℕ) (h : History) (s k n : ℕ) → length (delivered h s) ≤ k
    → change_at s (withdrawn_at k) (map (queue_of asks room h) (from 0 n))
    ≡ map (queue_of asks room (record { step = step.Withdraw s k; reply = reply.Withdrawn } ∷ h)) (from 0 n)
queues_marked asks room h s k n due =
    let new : History = record { step = step.Withdraw s k; reply = reply.Withdrawn } ∷ h in
    let z : 0 + s ≡ s = omega arith in
    let q : (s == s) ≡ true = grind (arith, nat_tests) in
    let d : ℕ = length (delivered h s) in
    let here : withdrawn_at k (queue_of asks room h s) ≡ queue_with asks room (accepted h s) d (phase h)
    (λ j. (true && (j == k)) || withdrawn h s j) = queue_marked asks room (accepted h s) d k (phase h) (withdrawn h s) due in
    let at : withdrawn_at k (queue_of asks room h s) ≡ queue_of asks room new s =
    subst (λ b. withdrawn_at k (queue_of asks room h s)
    ≡ queue_with asks room (accepted h s) d (phase h) (λ j. (b && (j == k)) || withdrawn h s j)) (sym q) here in
    change_from (queue_of asks room h) (queue_of asks room new) (withdrawn_at k) 0 n s
    (λ i far. (let f : (i == s) ≡ false = (let y : i ≢ s = λ p. far (p ∙ sym z) in grind (arith, nat_tests, y)) in
    subst (λ b. queue_of asks room h i ≡ queue_with asks room (accepted h i) (length (delivered h i)) (phase h)
    (λ j. (b && (j == k)) || withdrawn h i j)) (sym f) refl))
    (subst (λ i. withdrawn_at k (queue_of asks room h i) ≡ queue_of asks room new i) (sym z) at)

any_marked : (task : Task) (k : ℕ) (es : List EntryValue) → list_any (is_out_with task) (change_at k mark es) ≡ list_any (is_out_with task) es
any_marked task k [] = refl
any_marked task zero (e ∷ es) = refl
any_marked task (suc k) (e ∷ es) = ap (λ b. is_out_with task e || b) (any_marked task k es)

out_marked : (task : Task) (k : ℕ) (q : QueueValue) → list_any (is_out_with task) q.pending ≡ true
    → list_any (is_out_with task) (withdrawn_at k q).pending ≡ true
out_marked task k q y =
    elim (nat_lt k q.delivered) as (λ b. list_any (is_out_with task) (if b then q else (let z : QueueValue = record {
      room =
          q.room;
      delivered = q.delivered;
      pending = change_at (k - q.delivered) mark q.pending;
    } in z)).pending ≡ true) [
      | true ↦ y
      | false ↦ any_marked task (k - q.delivered) q.pending ∙ y
    ]

pub withdraws : (default : ℕ) (c : Content) (jobs : List Task) (s k : ℕ) → withdraw_refusal c s k ≡ None
    → Makes default (step.Withdraw s k) reply.Withdrawn c jobs (after_withdraw c s k) jobs
withdraws default c jobs s k w n room h x =
    let asks : ℕ → RecordValue = x.0 in
    let m : MirrorsBy asks n room default h c jobs = x.1 in
    let d : Content = after_withdraw c s k in
    let e : reply.Withdrawn ≡ withdraw_reply n h s k = ap withdrawal_reply (sym w) ∙ withdraw_is asks n room default h c jobs s k m in
    let p = place_of n h s k (sym e) in (
      asks,
      record {
        queues = ap (change_at s (withdrawn_at k)) m.queues ∙ queues_marked asks room h s k n p.due;
        next = m.next;
        shut = m.shut;
        nobody = m.nobody;
        fixed = and_fixed n room default h (step.Withdraw s k) reply.Withdrawn e m.fixed;
        sound = λ i. (elim (i == s) as (λ b. (i == s) ≡ b → Sound room default asks (accepted h i) (delivered h i)
            (count_accepted h) (phase h) (λ j. (b && (j == k)) || withdrawn h i j)) [
              | true ↦ λ q. let z : i ≡ s = grind (arith, nat_tests, q) in sound_marked room default asks (accepted h i)
                  (delivered h i) (count_accepted h) (phase h) (withdrawn h i) k (subst (λ t. length (delivered h t) ≤ k)
                  (sym z) p.due) (subst (λ t. k < length (accepted h t)) (sym z) p.inside) (m.sound i)
              | false ↦ λ q. m.sound i
            ]) refl;
        tickets = m.tickets;
        apart = m.apart;
        out = out_kept c d jobs (λ task o. out_change c d s (withdrawn_at k) task refl (λ q y. out_marked task k q y) o) m.out;
      },
    )

pub not_withdrawn : (default : ℕ) (c : Content) (jobs : List Task) (s k : ℕ) (r : WithdrawRefusal)
    → withdraw_refusal c s k ≡ Some r → Makes default (step.Withdraw s k) (reply.NotWithdrawn r) c jobs c jobs
not_withdrawn default c jobs s k r w n room h x =
    let asks : ℕ → RecordValue = x.0 in
    let m : MirrorsBy asks n room default h c jobs = x.1 in (
      asks,
      record {
        queues = m.queues;
        next = m.next;
        shut = m.shut;
        nobody = m.nobody;
        sound = m.sound;
        tickets = m.tickets;
        apart = m.apart;
        out = m.out;
        fixed = and_fixed n room default h (step.Withdraw s k) (reply.NotWithdrawn r)
            (ap withdrawal_reply (sym w) ∙ withdraw_is asks n room default h c jobs s k m) m.fixed;
      },
    )
