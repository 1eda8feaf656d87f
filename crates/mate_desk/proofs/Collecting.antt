-- A submitter collects.
use Rattle.std.proofs.Common.{◌≡◌, ℕ, zero, suc, ◌+◌, ◌<◌, ◌≤◌, List, [], ◌∷◌, ◌++◌, length, map, slice_get, Bool, true}
use Rattle.std.proofs.Common.{false, ap, refl, sym, ◌∙◌, subst, arith, None, Some, Option, nat_lt, if◌then◌else◌, ◌==◌}
use Rattle.std.proofs.lemmas.Bool.Decides.{nat_tests}
use Rattle.chess_notation.specs.Records.{RecordValue, Reads}
use Rattle.mate_jobs.specs.Jobs.{Task, answer_to}
use Rattle.mate_desk.specs.Content.{Content, EntryValue, QueueValue, Phase, Waiting, Out, Finished, is_ready}
use Rattle.mate_desk.specs.Calls.{change_at, ready_first, ready_of, ready, collected, after_collect}
use Rattle.mate_desk.specs.Deliveries.{delivery}
use Rattle.mate_desk.specs.History.{History, Claim, Parcel, Answered, Noticed, accepted, delivered, phase, withdrawn, count_accepted, is_notice}
use Rattle.mate_desk.specs.Headline.{IsFor}
use Rattle.mate_desk.specs.Replies.{from, IsOwed, IsFirstOwed, IsCollectReply, IsCollectReplyBy, IsReplyTo}
use Rattle.mate_desk.specs.inside.Mirrors.{entry_at, queue_of, AreOut, Sound, MirrorsBy, Makes}
use Rattle.mate_desk.specs.inside.Stepping.{found_reply}
use Rattle.mate_desk.specs.declared.steps_and_replies.Reply.{Reply}
use Rattle.mate_desk.specs.declared.steps_and_replies.Step.TheVariants as step
use Rattle.mate_desk.specs.declared.steps_and_replies.Reply.TheVariants as reply
use Rattle.mate_desk.proofs.Each.{change_from}
use Rattle.mate_desk.proofs.Hands.{out_kept}
use Rattle.mate_desk.proofs.Leaving.{and_fixed}
use Rattle.mate_desk.proofs.Acceptances.{out_change}
use Rattle.mate_desk.proofs.Submissions.{queue_known}
use Rattle.mate_desk.proofs.Handovers.{pending_some, pending_none, read_at, sound_delivered, queues_delivered, out_collected}
use Rattle.mate_desk.proofs.Steps.{stays_queue}

length_each : (f : ℕ → QueueValue) (k n : ℕ) → length (map f (from k n)) ≡ n
length_each f k zero = refl
length_each f k (suc n) = ap suc (length_each f (k + 1) n)

collect_known : (n default : ℕ) (h : History) (s : ℕ) (r : Reply) → s < n
    → IsFirstOwed default h s (slice_get (accepted h s) (length (delivered h s))) r → IsCollectReply n default h s r
collect_known n default h s r inside f = let w : nat_lt s n ≡ true = grind (arith, nat_tests, inside) in
    subst (λ b. IsCollectReplyBy b default h s r) (sym w) f

still : (asks : ℕ → RecordValue) (room : ℕ) (h : History) (s n : ℕ) → ready_first (queue_of asks room h s).pending ≡ None
    → change_at s collected (map (queue_of asks room h) (from 0 n)) ≡ map (queue_of asks room h) (from 0 n)
still asks room h s n e =
    let z : 0 + s ≡ s = omega arith in
    change_from (queue_of asks room h) (queue_of asks room h) collected 0 n s (λ i far. refl) (subst (λ i.
    collected (queue_of asks room h i) ≡ queue_of asks room h i) (sym z) (stays_queue (queue_of asks room h s) e))

-- The jobs that are out stay so.
out_after : (c : Content) (s : ℕ) (jobs : List Task) → AreOut c jobs → AreOut (after_collect c s) jobs
out_after c s jobs a = out_kept c (after_collect c s) jobs
    (λ task o. out_change c (after_collect c s) s collected task refl (λ q y. out_collected task q y) o) a

quiet : (asks : ℕ → RecordValue) (n room default : ℕ) (h : History) (c : Content) (jobs : List Task) (s : ℕ)
    → MirrorsBy asks n room default h c jobs → ready_first (queue_of asks room h s).pending ≡ None
    → IsReplyTo n room default h (step.Collect s) reply.Empty
    → MirrorsBy asks n room default (record { step = step.Collect s; reply = reply.Empty } ∷ h) (after_collect c s) jobs
quiet asks n room default h c jobs s m e f = record {
  queues = ap (change_at s collected) m.queues ∙ still asks room h s n e;
  next = m.next;
  shut = m.shut;
  nobody = m.nobody;
  sound = m.sound;
  tickets = m.tickets;
  apart = m.apart;
  fixed = and_fixed n room default h (step.Collect s) reply.Empty f m.fixed;
  out = out_after c s jobs m.out;
}

sound_one : (asks : ℕ → RecordValue) (room default : ℕ) (h : History) (s : ℕ) (parcel : Parcel) (claim : Claim)
    → ((i : ℕ) → Sound room default asks (accepted h i) (delivered h i) (count_accepted h) (phase h) (withdrawn h i))
    → slice_get (accepted h s) (length (delivered h s)) ≡ Some claim
    → is_ready (entry_at asks (phase h) (withdrawn h s) (length (delivered h s)) claim) ≡ true → IsFor default claim parcel
    → is_notice parcel ≡ withdrawn h s (length (delivered h s))
    → (i : ℕ) → Sound room default asks (accepted h i) (if i == s then delivered h i ++ parcel ∷ [] else delivered h i)
    (count_accepted h) (phase h) (withdrawn h i)
sound_one asks room default h s parcel claim sound at ready is notice i =
    (elim (i == s) as (λ b. (i == s) ≡ b → Sound room default asks (accepted h i)
    (if b then delivered h i ++ parcel ∷ [] else delivered h i) (count_accepted h) (phase h) (withdrawn h i)) [
      | true ↦ λ q.
          let z : s ≡ i = grind (arith, nat_tests, q) in
          subst (λ j. Sound room default asks (accepted h j) (delivered h j ++ parcel ∷ []) (count_accepted h) (phase h)
          (withdrawn h j)) z (sound_delivered room default asks (accepted h s) (delivered h s) (count_accepted h) (phase h)
          (withdrawn h s) claim parcel at ready is notice (sound s))
      | false ↦ λ q. sound i
    ]) refl

gives_answer : (asks : ℕ → RecordValue) (n room default : ℕ) (h : History) (c : Content) (jobs : List Task) (s : ℕ)
    (claim : Claim) → MirrorsBy asks n room default h c jobs → slice_get (accepted h s) (length (delivered h s)) ≡ Some claim
    → withdrawn h s (length (delivered h s)) ≡ false
    → is_ready (entry_at asks (phase h) (withdrawn h s) (length (delivered h s)) claim) ≡ true
    → IsReplyTo n room default h (step.Collect s) (reply.Answer (answer_to (asks claim.ticket)))
    → MirrorsBy asks n room default (record { step = step.Collect s; reply = reply.Answer (answer_to (asks claim.ticket)) } ∷ h) (after_collect c s) jobs
gives_answer asks n room default h c jobs s claim m at w ready f =
    let reads : Reads claim.line default (asks claim.ticket) =
    read_at default asks (accepted h s) (length (delivered h s)) claim (m.sound s).read at in
    record {
      queues = ap (change_at s collected) m.queues ∙ queues_delivered asks room h s n (Answered (answer_to (asks claim.ticket))) claim at ready;
      next = m.next;
      shut = m.shut;
      nobody = m.nobody;
      tickets = m.tickets;
      apart = m.apart;
      sound = sound_one asks room default h s (Answered (answer_to (asks claim.ticket))) claim m.sound at ready reads (sym w);
      fixed = and_fixed n room default h (step.Collect s) (reply.Answer (answer_to (asks claim.ticket))) f m.fixed;
      out = out_after c s jobs m.out;
    }

gives_notice : (asks : ℕ → RecordValue) (n room default : ℕ) (h : History) (c : Content) (jobs : List Task) (s : ℕ)
    (claim : Claim) → MirrorsBy asks n room default h c jobs → slice_get (accepted h s) (length (delivered h s)) ≡ Some claim
    → withdrawn h s (length (delivered h s)) ≡ true
    → is_ready (entry_at asks (phase h) (withdrawn h s) (length (delivered h s)) claim) ≡ true
    → IsReplyTo n room default h (step.Collect s) (reply.Notice claim.ticket)
    → MirrorsBy asks n room default (record { step = step.Collect s; reply = reply.Notice claim.ticket } ∷ h) (after_collect c s) jobs
gives_notice asks n room default h c jobs s claim m at w ready f = record {
  queues = ap (change_at s collected) m.queues ∙ queues_delivered asks room h s n (Noticed claim.ticket) claim at ready;
  next = m.next;
  shut = m.shut;
  nobody = m.nobody;
  tickets = m.tickets;
  apart = m.apart;
  sound = sound_one asks room default h s (Noticed claim.ticket) claim m.sound at ready refl (sym w);
  fixed = and_fixed n room default h (step.Collect s) (reply.Notice claim.ticket) f m.fixed;
  out = out_after c s jobs m.out;
}

-- what is collected of a queue that begins with this record
first_reply : EntryValue → Reply
first_reply e = found_reply (delivery (if is_ready e then Some e else None))

-- by whether the first pending record is withdrawn, and its phase
by_phase : (asks : ℕ → RecordValue) (n room default : ℕ) (h : History) (c : Content) (jobs : List Task) (s : ℕ) (claim : Claim)
    → MirrorsBy asks n room default h c jobs → s < n → slice_get (accepted h s) (length (delivered h s)) ≡ Some claim
    → (b : Bool) (p : Phase) → withdrawn h s (length (delivered h s)) ≡ b → phase h claim.ticket ≡ p
    → MirrorsBy asks n room default (record {
      step = step.Collect s;
      reply = found_reply
          (delivery (if is_ready (record { ticket = claim.ticket; asked = asks claim.ticket; phase = p; withdrawn = b }) then Some
          (record { ticket = claim.ticket; asked = asks claim.ticket; phase = p; withdrawn = b }) else None));
    } ∷ h)
    (after_collect c s) jobs
by_phase asks n room default h c jobs s claim m inside at b p w v = by_cases b p w v
  where
    d : ℕ
    d = length (delivered h s)

    none_first : (b : Bool) (p : Phase) → withdrawn h s d ≡ b → phase h claim.ticket ≡ p
        → is_ready (record { ticket = claim.ticket; asked = asks claim.ticket; phase = p; withdrawn = b }) ≡ false
        → ready_first (queue_of asks room h s).pending ≡ None
    none_first b p w v r =
        let e = ap ready_first (pending_some asks (phase h) (withdrawn h s) d d (accepted h s) claim at) in
        let q : is_ready (entry_at asks (phase h) (withdrawn h s) d claim) ≡ false = rw (w, v) r in
        e ∙ (rw q refl)

    ready_then : (b : Bool) (p : Phase) → withdrawn h s d ≡ b → phase h claim.ticket ≡ p
        → is_ready (record { ticket = claim.ticket; asked = asks claim.ticket; phase = p; withdrawn = b }) ≡ true
        → is_ready (entry_at asks (phase h) (withdrawn h s) d claim) ≡ true
    ready_then b p w v r = rw (w, v) r

    owed : (r : Reply) (b : Bool) (p : Phase) → withdrawn h s d ≡ b → phase h claim.ticket ≡ p
        → IsOwed default b p claim r → IsCollectReply n default h s r
    owed r b p w v is = collect_known n default h s r inside (subst (λ o. IsFirstOwed default h s o r) (sym at)
        (subst (λ q. IsOwed default (withdrawn h s d) q claim r) (sym v) (subst (λ q. IsOwed default q p claim r) (sym w) is)))

    by_cases : (b : Bool) (p : Phase) → withdrawn h s d ≡ b → phase h claim.ticket ≡ p
        → MirrorsBy asks n room default (record {
          step = step.Collect s;
          reply = found_reply
              (delivery (if is_ready (record { ticket = claim.ticket; asked = asks claim.ticket; phase = p; withdrawn = b }) then Some
              (record { ticket = claim.ticket; asked = asks claim.ticket; phase = p; withdrawn = b }) else None));
        } ∷ h)
        (after_collect c s) jobs
    by_cases true Waiting w v = gives_notice asks n room default h c jobs s claim m at w (ready_then true Waiting w v refl)
        (owed (reply.Notice claim.ticket) true Waiting w v refl)
    by_cases true Out w v = quiet asks n room default h c jobs s m (none_first true Out w v refl) (owed reply.Empty true Out w v refl)
    by_cases true Finished w v = gives_notice asks n room default h c jobs s claim m at w (ready_then true Finished w v refl)
        (owed (reply.Notice claim.ticket) true Finished w v refl)
    by_cases false Waiting w v = quiet asks n room default h c jobs s m (none_first false Waiting w v refl) (owed reply.Empty false Waiting w v refl)
    by_cases false Out w v = quiet asks n room default h c jobs s m (none_first false Out w v refl) (owed reply.Empty false Out w v refl)
    by_cases false Finished w v =
        let reads : Reads claim.line default (asks claim.ticket) = read_at default asks (accepted h s) d claim (m.sound s).read at in
        gives_answer asks n room default h c jobs s claim m at w (ready_then false Finished w v refl)
        (owed (reply.Answer (answer_to (asks claim.ticket))) false Finished w v (asks claim.ticket, reads, refl))

by_claim : (asks : ℕ → RecordValue) (n room default : ℕ) (h : History) (c : Content) (jobs : List Task) (s : ℕ) → MirrorsBy asks n
    room default h c jobs → s < n → (o : Option Claim) → slice_get (accepted h s) (length (delivered h s)) ≡ o
    → MirrorsBy asks n room default (record {
      step = step.Collect s;
      reply = found_reply (delivery (ready_first (queue_of asks room h s).pending));
    } ∷ h) (after_collect c s) jobs
by_claim asks n room default h c jobs s m inside None e =
    let d : ℕ = length (delivered h s) in
    let p : ready_first (queue_of asks room h s).pending ≡ None = ap ready_first (pending_none asks (phase h) (withdrawn h s) d d (accepted h s) e) in
    let f : IsCollectReply n default h s reply.Empty =
    collect_known n default h s reply.Empty inside (subst (λ o. IsFirstOwed default h s o reply.Empty) (sym e) refl) in
    subst (λ r. MirrorsBy asks n room default (record { step = step.Collect s; reply = found_reply (delivery r) } ∷ h)
    (after_collect c s) jobs) (sym p) (quiet asks n room default h c jobs s m p f)
by_claim asks n room default h c jobs s m inside (Some claim) e =
    let d : ℕ = length (delivered h s) in
    let p = ap ready_first (pending_some asks (phase h) (withdrawn h s) d d (accepted h s) claim e) in
    subst (λ r. MirrorsBy asks n room default
    (record { step = step.Collect s; reply = found_reply (delivery r) } ∷ h) (after_collect c s) jobs) (sym p)
    (by_phase asks n room default h c jobs s claim m inside e (withdrawn h s d) (phase h claim.ticket) refl refl)

pub collects : (default : ℕ) (c : Content) (jobs : List Task) (s : ℕ) → s < length c.queues
    → Makes default (step.Collect s) (found_reply (delivery (ready c s))) c jobs (after_collect c s) jobs
collects default c jobs s inside n room h x =
    let asks : ℕ → RecordValue = x.0 in
    let m : MirrorsBy asks n room default h c jobs = x.1 in
    let len : length c.queues ≡ n = ap length m.queues ∙ length_each (queue_of asks room h) 0 n in
    let y : s < n = omega (arith, len, inside) in
    let g = queue_known asks n room default h c jobs s m y in (
      asks,
      subst (λ o. MirrorsBy asks n room default
          (record { step = step.Collect s; reply = found_reply (delivery (ready_of o)) } ∷ h) (after_collect c s) jobs) (sym g)
          (by_claim asks n room default h c jobs s m y (slice_get (accepted h s) (length (delivered h s))) refl),
    )

pub no_submitter : (default : ℕ) (c : Content) (jobs : List Task) (s : ℕ) → length c.queues ≤ s
    → Makes default (step.Collect s) reply.NoSuchSubmitter c jobs c jobs
no_submitter default c jobs s past n room h x =
    let asks : ℕ → RecordValue = x.0 in
    let m : MirrorsBy asks n room default h c jobs = x.1 in
    let len : length c.queues ≡ n = ap length m.queues ∙ length_each (queue_of asks room h) 0 n in
    let w : nat_lt s n ≡ false = (let y : n ≤ s = omega (arith, len, past) in grind (arith, nat_tests, y)) in
    let f : IsCollectReply n default h s reply.NoSuchSubmitter = subst (λ b. IsCollectReplyBy b default h s reply.NoSuchSubmitter) (sym w) refl in (
      asks,
      record {
        queues = m.queues;
        next = m.next;
        shut = m.shut;
        nobody = m.nobody;
        sound = m.sound;
        tickets = m.tickets;
        apart = m.apart;
        out = m.out;
        fixed = and_fixed n room default h (step.Collect s) reply.NoSuchSubmitter f m.fixed;
      },
    )
