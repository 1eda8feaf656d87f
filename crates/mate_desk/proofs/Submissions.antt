-- A line is handed in.
use Rattle.std.specs.declared.alloc.Global.{Global}
use Rattle.std.proofs.Common.{◌≡◌, ◌≢◌, ◌⊎◌, ℕ, Vec, suc, ◌+◌, ◌-◌, ◌^◌, ◌<◌, ◌≤◌, List, [], ◌∷◌, ◌++◌, length}
use Rattle.std.proofs.Common.{length-drop, map, drop, slice_get, Bool, true, false, nat_le, ap, refl, sym}
use Rattle.std.proofs.Common.{◌∙◌, subst, arith, None, Some, Option, if◌then◌else◌, ◌==◌, inl, inr}
use Rattle.std.proofs.lemmas.Bool.Decides.{nat_tests}
use Rattle.chess_notation.specs.Records.{RecordValue, Reads}
use Rattle.chess_notation.specs.EpdFaults.{IsFaultOf}
use Rattle.chess_notation.specs.declared.epd_faults.EpdFault.{EpdFault}
use Rattle.chess_notation.specs.declared.epd_faults.EpdFault.TheVariants.{NoMemory}
use Rattle.mate_jobs.specs.Jobs.{Task}
use Rattle.mate_desk.specs.Content.{Content, QueueValue, Phase, Waiting, is_out_with}
use Rattle.mate_desk.specs.Calls.{change_at, with_entry, after_submit, submit_refusal}
use Rattle.mate_desk.specs.declared.refusals.SubmitRefusal.{SubmitRefusal}
use Rattle.mate_desk.specs.declared.refusals.SubmitRefusal.TheVariants as refused
use Rattle.mate_desk.specs.History.{History, Claim, accepted, delivered, phase, withdrawn, count_accepted, closed, pending}
use Rattle.mate_desk.specs.Replies.{from, submit_reply, IsSubmitReply}
use Rattle.mate_desk.specs.inside.Mirrors.{entries_from, queue_of, Sound, MirrorsBy, Mirrors, Makes}
use Rattle.mate_desk.specs.declared.steps_and_replies.Reply.{Reply}
use Rattle.mate_desk.specs.declared.steps_and_replies.Step.TheVariants as step
use Rattle.mate_desk.specs.declared.steps_and_replies.Reply.TheVariants as reply
use Rattle.mate_desk.proofs.Each.{get_in, get_out, change_from}
use Rattle.mate_desk.proofs.PhaseChanges.{but}
use Rattle.mate_desk.proofs.Hands.{out_kept}
use Rattle.mate_desk.proofs.Leaving.{and_fixed}
use Rattle.mate_desk.proofs.Acceptances.{asking, queue_fresh, queue_pushed, sound_fresh, sound_pushed, any_append, out_change}

length_entries : (asks : ℕ → RecordValue) (phases : ℕ → Phase) (marks : ℕ → Bool) (j : ℕ) (claims : List Claim)
    → length (entries_from asks phases marks j claims) ≡ length claims
length_entries asks phases marks j [] = refl
length_entries asks phases marks j (claim ∷ claims) = ap suc (length_entries asks phases marks (j + 1) claims)

pub length_queue : (asks : ℕ → RecordValue) (room : ℕ) (h : History) (s : ℕ) → length (queue_of asks room h s).pending ≡ pending h s
length_queue asks room h s = length_entries asks (phase h) (withdrawn h s) (length (delivered h s))
    (drop (length (delivered h s)) (accepted h s)) ∙ length-drop (length (delivered h s)) (accepted h s)

-- the queue of a submitter, where it is one
pub queue_known : (asks : ℕ → RecordValue) (n room default : ℕ) (h : History) (c : Content) (jobs : List Task) (s : ℕ)
    → MirrorsBy asks n room default h c jobs → s < n → slice_get c.queues s ≡ Some (queue_of asks room h s)
queue_known asks n room default h c jobs s m inside =
    let z : 0 + s ≡ s = omega arith in
    ap (λ (qs : List QueueValue). slice_get qs s) m.queues ∙ (get_in (queue_of asks room h) 0 n s inside ∙ ap (λ i. Some (queue_of asks room h i)) z)

pub queue_unknown : (asks : ℕ → RecordValue) (n room default : ℕ) (h : History) (c : Content) (jobs : List Task) (s : ℕ)
    → MirrorsBy asks n room default h c jobs → n ≤ s → slice_get c.queues s ≡ None
queue_unknown asks n room default h c jobs s m past =
    ap (λ (qs : List QueueValue). slice_get qs s) m.queues ∙ get_out (queue_of asks room h) 0 n s past

-- what is replied to a record that a desk refuses for this reason, or takes
abbrev pub desk_reply : ℕ → Option SubmitRefusal → Reply
desk_reply g None = reply.Ticket g
desk_reply g (Some r) = reply.Refused r

by_tests : (g : ℕ) (a b : Bool)
    → (if a then reply.Refused refused.Closed else (if b then reply.Refused refused.Full else reply.Ticket g))
    ≡ desk_reply g (if a then Some refused.Closed else (if b then Some refused.Full else None))
by_tests g true b = refl
by_tests g false true = refl
by_tests g false false = refl

submit_is : (asks : ℕ → RecordValue) (n room default : ℕ) (h : History) (c : Content) (jobs : List Task) (s : ℕ) → MirrorsBy asks
    n room default h c jobs → c.next < 2 ^ 64 - 1 → submit_reply n room h s ≡ desk_reply (count_accepted h) (submit_refusal c s)
submit_is asks n room default h c jobs s m few =
    (elim (nat_le n s) as (λ b. nat_le n s ≡ b → (if b then reply.Refused refused.NoSuchSubmitter
    else (if closed h then reply.Refused refused.Closed else (if nat_le room (pending h s) then reply.Refused refused.Full
    else reply.Ticket (count_accepted h)))) ≡ desk_reply (count_accepted h) (submit_refusal c s)) [
      | true ↦ λ w. let g = queue_unknown asks n room default h c jobs s m (grind (arith, nat_tests, w)) in rw g refl
      | false ↦ λ w.
          let g = queue_known asks n room default h c jobs s m (grind (arith, nat_tests, w)) in
          let x : (c.next == 2 ^ 64 - 1) ≡ false = (let q : c.next ≢ 2 ^ 64 - 1 = λ p. omega (arith, p, few) in grind (arith, nat_tests, q)) in
          rw (g, m.shut, length_queue asks room h s, x) (by_tests (count_accepted h) (closed h) (nat_le room (pending h s)))
    ]) refl

-- what an accepted record says of its submitter
record IsRoomFor (n room : ℕ) (h : History) (s : ℕ) : Type 0 where
  known : s < n
  space : pending h s < room

room_for : (n room : ℕ) (h : History) (s : ℕ) → submit_reply n room h s ≡ reply.Ticket (count_accepted h) → IsRoomFor n room h s
room_for n room h s e = (elim (nat_le n s) as (λ b. nat_le n s ≡ b → (if b then reply.Refused refused.NoSuchSubmitter
    else (if closed h then reply.Refused refused.Closed else (if nat_le room (pending h s) then reply.Refused refused.Full
    else reply.Ticket (count_accepted h)))) ≡ reply.Ticket (count_accepted h) → IsRoomFor n room h s) [
      | true ↦ λ w f. cc
      | false ↦ λ w f. (elim (closed h) as (λ b. (if b then reply.Refused refused.Closed
          else (if nat_le room (pending h s) then reply.Refused refused.Full else reply.Ticket (count_accepted h)))
          ≡ reply.Ticket (count_accepted h) → IsRoomFor n room h s) [
            | true ↦ λ g. cc
            | false ↦ λ g. (elim (nat_le room (pending h s)) as (λ b. nat_le room (pending h s) ≡ b → (if b then reply.Refused
                refused.Full else reply.Ticket (count_accepted h)) ≡ reply.Ticket (count_accepted h) → IsRoomFor n room h s) [
                  | true ↦ λ v k. cc
                  | false ↦ λ v k. record { known = grind (arith, nat_tests, w); space = grind (arith, nat_tests, v) }
                ]) refl g
          ]) f
    ]) refl e

queues_pushed : (asks : ℕ → RecordValue) (room default : ℕ) (h : History) (s n : ℕ) (text : Vec ℕ Global) (asked : RecordValue)
    → ((i : ℕ) → Sound room default asks (accepted h i) (delivered h i) (count_accepted h) (phase h) (withdrawn h i))
    → change_at s (with_entry (count_accepted h) asked) (map (queue_of asks room h) (from 0 n))
    ≡ map (queue_of (asking asks (count_accepted h) asked) room
    (record { step = step.Submit s text; reply = reply.Ticket (count_accepted h) } ∷ h)) (from 0 n)
queues_pushed asks room default h s n text asked sound =
    let g : ℕ = count_accepted h in
    let new : History = record { step = step.Submit s text; reply = reply.Ticket g } ∷ h in
    let now : ℕ → RecordValue = asking asks g asked in
    let z : 0 + s ≡ s = omega arith in
    let q : (s == s) ≡ true = grind (arith, nat_tests) in
    let here : with_entry g asked (queue_of asks room h s) ≡ queue_of now room new s =
    rw q (queue_pushed g text.items asked asks room (length (delivered h s)) (phase h) (withdrawn h s) (accepted h s)
    (sound s).below (sound s).few ((sound s).unmarked (length (accepted h s)) (omega arith))) in
    change_from (queue_of asks room h) (queue_of now room new) (with_entry g asked) 0 n s
    (λ i far. (let f : (i == s) ≡ false = (let y : i ≢ s = λ p. far (p ∙ sym z) in grind (arith, nat_tests, y)) in
    rw f (queue_fresh g asked asks room (length (delivered h i)) (phase h) (withdrawn h i) (accepted h i) (sound i).below)))
    (subst (λ i. with_entry g asked (queue_of asks room h i) ≡ queue_of now room new i) (sym z) here)

-- The desk takes the record that the line says.
pub accepts : (default : ℕ) (c : Content) (jobs : List Task) (s : ℕ) (text : Vec ℕ Global) (asked : RecordValue)
    → Reads text.items default asked → submit_refusal c s ≡ None → c.next < 2 ^ 64 - 1
    → Makes default (step.Submit s text) (reply.Ticket c.next) c jobs (after_submit c s asked) jobs
accepts default c jobs s text asked reads r few n room h x =
    let asks : ℕ → RecordValue = x.0 in
    let m : MirrorsBy asks n room default h c jobs = x.1 in
    let g : ℕ = count_accepted h in
    let d : Content = after_submit c s asked in
    let now : ℕ → RecordValue = asking asks g asked in
    let f : submit_reply n room h s ≡ reply.Ticket g = submit_is asks n room default h c jobs s m few ∙ ap (desk_reply g) r in
    let fits = room_for n room h s f in
    let new : History = record { step = step.Submit s text; reply = reply.Ticket g } ∷ h in
    let queues : d.queues ≡ map (queue_of now room new) (from 0 n) = ap (λ k. change_at s (with_entry k asked) c.queues) m.next
    ∙ (ap (change_at s (with_entry g asked)) m.queues ∙ queues_pushed asks room default h s n text asked m.sound) in
    let all : Mirrors n room default new d jobs = (
      now,
      record {
        queues = queues;
        next = ap (λ k. k + 1) m.next;
        shut = m.shut;
        nobody = λ i past. (let q : (i == s) ≡ false =
            (let y : i ≢ s = λ p. omega (arith, past, p, fits.known) in grind (arith, nat_tests, y)) in rw q (m.nobody i past));
        fixed = and_fixed n room default h (step.Submit s text) (reply.Ticket g) (inr (asked, reads, inr (sym f))) m.fixed;
        sound = λ i. (elim (i == s) as (λ b. (i == s) ≡ b → Sound room default now (if b then accepted h i ++ record {
          ticket = g;
          line = text.items;
        } ∷ [] else accepted h i) (delivered h i) (g + 1) (but (phase h) g Waiting) (withdrawn h i)) [
          | true ↦ λ q.
              let same : i ≡ s = grind (arith, nat_tests, q) in
              let few_here = (m.sound i).few in
              let space : pending h i < room = subst (λ t. pending h t < room) (sym same) fits.space in
              sound_pushed room default g text.items asked asks (accepted h i) (delivered h i) (phase h) (withdrawn h i) reads
              (omega (arith, few_here, space)) (m.sound i)
          | false ↦ λ q. sound_fresh room default g asked asks (accepted h i) (delivered h i) (phase h) (withdrawn h i) (m.sound i)
        ]) refl;
        tickets = m.tickets;
        apart = m.apart;
        out = out_kept c d jobs (λ task o.
            out_change c d s (with_entry c.next asked) task refl (λ q y. any_append (is_out_with task) q.pending _ y) o) m.out;
      },
    ) in
    subst (λ k. Mirrors n room default (record { step = step.Submit s text; reply = reply.Ticket k } ∷ h) d jobs) (sym m.next) all

-- The desk refuses it.
pub refuses : (default : ℕ) (c : Content) (jobs : List Task) (s : ℕ) (text : Vec ℕ Global) (asked : RecordValue)
    (r : SubmitRefusal) → Reads text.items default asked → submit_refusal c s ≡ Some r → c.next < 2 ^ 64 - 1
    → Makes default (step.Submit s text) (reply.Refused r) c jobs c jobs
refuses default c jobs s text asked r reads w few n room h x =
    let asks : ℕ → RecordValue = x.0 in
    let m : MirrorsBy asks n room default h c jobs = x.1 in (
      asks,
      record {
        queues = m.queues;
        next = m.next;
        shut = m.shut;
        nobody = m.nobody;
        sound = m.sound;
        tickets = m.tickets;
        apart = m.apart;
        out = m.out;
        fixed = and_fixed n room default h (step.Submit s text) (reply.Refused r) (inr (
          asked,
          reads,
          inr (sym (submit_is asks n room default h c jobs s m few ∙ ap (desk_reply (count_accepted h)) w)),
        )) m.fixed;
      },
    )

-- The line says no record, or memory was refused for it.
pub faulty : (default : ℕ) (c : Content) (jobs : List Task) (s : ℕ) (text : Vec ℕ Global) (fault : EpdFault) → IsFaultOf
    text.items fault ⊎ ((fault ≡ NoMemory) × ((asked : RecordValue) × Reads text.items default asked × (asked.rest ≢ [])))
    → Makes default (step.Submit s text) (reply.BadRecord fault) c jobs c jobs
faulty default c jobs s text fault f n room h x =
    let asks : ℕ → RecordValue = x.0 in
    let m : MirrorsBy asks n room default h c jobs = x.1 in (
      asks,
      record {
        queues = m.queues;
        next = m.next;
        shut = m.shut;
        nobody = m.nobody;
        sound = m.sound;
        tickets = m.tickets;
        apart = m.apart;
        out = m.out;
        fixed = and_fixed n room default h (step.Submit s text) (reply.BadRecord fault) (by_fault f) m.fixed;
      },
    )
  where
    by_fault : IsFaultOf text.items fault
        ⊎ ((fault ≡ NoMemory) × ((asked : RecordValue) × Reads text.items default asked × (asked.rest ≢ [])))
        → IsSubmitReply n room default h s text.items (reply.BadRecord fault)
    by_fault (inl e) = inl (fault, e, refl)
    by_fault (inr e) = inr (e.1.0, e.1.1, inl (e.1.2, ap (λ q. reply.BadRecord q) e.0))
