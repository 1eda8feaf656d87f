-- Jobs are taken into the hand, and leave it.
use Rattle.std.proofs.Common.{◌≡◌, ◌≢◌, ℕ, ◌≤◌, List, [], ◌∷◌, ◌++◌, length, map, slice_get, true, false, ap, refl, sym, ◌∙◌, subst, None, Some}
use Rattle.std.specs.List.{remove}
use Rattle.std.proofs.lemmas.List.{map-append}
use Rattle.chess_notation.specs.Records.{RecordValue}
use Rattle.mate_jobs.specs.Jobs.{Task}
use Rattle.mate_desk.specs.Content.{Content, Waiting, Out, Finished, is_waiting, is_out, entries, lowest, has_ticket}
use Rattle.mate_desk.specs.Calls.{into_phase, in_queue, everywhere, has_out, after_close}
use Rattle.mate_desk.specs.History.{History, accepted, delivered, phase, withdrawn, hand, count_accepted, without}
use Rattle.mate_desk.specs.Replies.{take_reply, finish_reply, back_reply, IsReplyTo, AreReplies}
use Rattle.mate_desk.specs.inside.Mirrors.{queue_with, queue_of, AreApart, MirrorsBy, Makes}
use Rattle.mate_desk.specs.declared.steps_and_replies.Step.{Step}
use Rattle.mate_desk.specs.declared.steps_and_replies.Reply.{Reply}
use Rattle.mate_desk.specs.declared.steps_and_replies.Step.TheVariants as step
use Rattle.mate_desk.specs.declared.steps_and_replies.Reply.TheVariants as reply
use Rattle.mate_desk.proofs.Each.{map_from}
use Rattle.mate_desk.proofs.PhaseChanges.{but, queue_into, sound_into, out_other, waiting_not_out, waiting_not_finished, out_not_finished}
use Rattle.mate_desk.proofs.Waits.{lowest_is, least_waits, out_phase}
use Rattle.mate_desk.proofs.Hands.{filter_removed, apart_removed, apart_push, out_kept, out_push, not_among, out_removed, get_ticket, get_no_ticket}

-- one reply more
pub and_fixed : (n room default : ℕ) (h : History) (s : Step) (r : Reply) → IsReplyTo n room default h s r
    → AreReplies n room default h → AreReplies n room default (record { step = s; reply = r } ∷ h)
unfolding AreReplies
and_fixed n room default h s r one all = (one, all)

-- The lowest ticket that waits is taken.
pub taken : (default : ℕ) (c : Content) (jobs : List Task) (job : Task) → lowest (entries c) ≡ Some job.ticket
    → has_out (everywhere (into_phase (has_ticket job.ticket) Out) c) job ≡ true → Makes default step.Take
    (reply.Job job.ticket) c jobs (everywhere (into_phase (has_ticket job.ticket) Out) c) (jobs ++ job ∷ [])
taken default c jobs job low o n room h x =
    let asks : ℕ → RecordValue = x.0 in
    let m : MirrorsBy asks n room default h c jobs = x.1 in
    let t : ℕ = job.ticket in
    let d : Content = everywhere (into_phase (has_ticket t) Out) c in
    let e = sym (lowest_is asks n room default h c jobs m) ∙ low in
    let w : is_waiting (phase h t) ≡ true = least_waits n h t e in
    let away : (task : Task) → has_out c task ≡ true → task.ticket ≢ t =
    λ task y q. (let z = out_phase asks n room default h c jobs task m y in let r : is_out (phase h task.ticket) ≡ false =
    ap (λ u. is_out (phase h u)) q ∙ waiting_not_out (phase h t) w in cc) in (
      asks,
      record {
        queues = ap (map (in_queue (into_phase (has_ticket t) Out))) m.queues
            ∙ map_from (queue_of asks room h) (in_queue (into_phase (has_ticket t) Out))
            (λ s. queue_with asks room (accepted h s) (length (delivered h s)) (but (phase h) t Out) (withdrawn h s)) 0 n
            (λ s. queue_into asks (phase h) (withdrawn h s) t Out room (length (delivered h s)) (accepted h s));
        next = m.next;
        shut = m.shut;
        nobody = m.nobody;
        fixed = and_fixed n room default h step.Take (reply.Job t) (ap take_reply (sym e)) m.fixed;
        sound = λ s. sound_into room default asks (accepted h s) (delivered h s) (count_accepted h) (phase h)
            (withdrawn h s) t Out (waiting_not_finished (phase h t) w) (m.sound s);
        tickets = ap (λ ts. ts ++ t ∷ []) m.tickets ∙ sym (map-append (λ (j : Task). j.ticket) jobs (job ∷ []));
        apart = apart_push (hand h) t m.apart (rw m.tickets (not_among c t jobs away m.out));
        out = out_push d jobs job (out_kept c d jobs (λ task y. out_other c t Out task (away task y) y) m.out) o;
      },
    )

-- A job leaves the hand, and its record is finished.
pub finished : (default : ℕ) (c : Content) (jobs : List Task) (i : ℕ) (job : Task) → slice_get jobs i ≡ Some job
    → has_out c job ≡ true → Makes default (step.Finish i) (reply.Done job.ticket) c jobs
    (everywhere (into_phase (has_ticket job.ticket) Finished) c) (remove jobs i)
finished default c jobs i job at o n room h x =
    let asks : ℕ → RecordValue = x.0 in
    let m : MirrorsBy asks n room default h c jobs = x.1 in
    let t : ℕ = job.ticket in
    let d : Content = everywhere (into_phase (has_ticket t) Finished) c in
    let w : is_out (phase h t) ≡ true = out_phase asks n room default h c jobs job m o in
    let a : AreApart (map (λ j. j.ticket) jobs) = subst AreApart m.tickets m.apart in (
      asks,
      record {
        queues = ap (map (in_queue (into_phase (has_ticket t) Finished))) m.queues
            ∙ map_from (queue_of asks room h) (in_queue (into_phase (has_ticket t) Finished))
            (λ s. queue_with asks room (accepted h s) (length (delivered h s)) (but (phase h) t Finished) (withdrawn h s)) 0 n
            (λ s. queue_into asks (phase h) (withdrawn h s) t Finished room (length (delivered h s)) (accepted h s));
        next = m.next;
        shut = m.shut;
        nobody = m.nobody;
        fixed = and_fixed n room default h (step.Finish i) (reply.Done t)
            (ap finish_reply (sym (ap (λ ts. slice_get ts i) m.tickets ∙ get_ticket jobs i job at))) m.fixed;
        sound = λ s. sound_into room default asks (accepted h s) (delivered h s) (count_accepted h) (phase h)
            (withdrawn h s) t Finished (out_not_finished (phase h t) w) (m.sound s);
        tickets = ap (without t) m.tickets ∙ filter_removed jobs i job a at;
        apart = apart_removed (hand h) t m.apart;
        out = out_removed c d jobs i job a at (λ task q e. out_other c t Finished task q e) m.out;
      },
    )

-- A job leaves the hand, and its record waits again.
pub handed_back : (default : ℕ) (c : Content) (jobs : List Task) (i : ℕ) (job : Task) → slice_get jobs i ≡ Some job
    → has_out c job ≡ true → Makes default (step.HandBack i) (reply.Back job.ticket) c jobs
    (everywhere (into_phase (has_ticket job.ticket) Waiting) c) (remove jobs i)
handed_back default c jobs i job at o n room h x =
    let asks : ℕ → RecordValue = x.0 in
    let m : MirrorsBy asks n room default h c jobs = x.1 in
    let t : ℕ = job.ticket in
    let d : Content = everywhere (into_phase (has_ticket t) Waiting) c in
    let w : is_out (phase h t) ≡ true = out_phase asks n room default h c jobs job m o in
    let a : AreApart (map (λ j. j.ticket) jobs) = subst AreApart m.tickets m.apart in (
      asks,
      record {
        queues = ap (map (in_queue (into_phase (has_ticket t) Waiting))) m.queues
            ∙ map_from (queue_of asks room h) (in_queue (into_phase (has_ticket t) Waiting))
            (λ s. queue_with asks room (accepted h s) (length (delivered h s)) (but (phase h) t Waiting) (withdrawn h s)) 0 n
            (λ s. queue_into asks (phase h) (withdrawn h s) t Waiting room (length (delivered h s)) (accepted h s));
        next = m.next;
        shut = m.shut;
        nobody = m.nobody;
        fixed = and_fixed n room default h (step.HandBack i) (reply.Back t)
            (ap back_reply (sym (ap (λ ts. slice_get ts i) m.tickets ∙ get_ticket jobs i job at))) m.fixed;
        sound = λ s. sound_into room default asks (accepted h s) (delivered h s) (count_accepted h) (phase h)
            (withdrawn h s) t Waiting (out_not_finished (phase h t) w) (m.sound s);
        tickets = ap (without t) m.tickets ∙ filter_removed jobs i job a at;
        apart = apart_removed (hand h) t m.apart;
        out = out_removed c d jobs i job a at (λ task q e. out_other c t Waiting task q e) m.out;
      },
    )

-- Nothing waits.
pub nothing_taken : (default : ℕ) (c : Content) (jobs : List Task) → lowest (entries c) ≡ None → Makes default step.Take reply.Nothing c jobs c jobs
nothing_taken default c jobs low n room h x =
    let asks : ℕ → RecordValue = x.0 in
    let m : MirrorsBy asks n room default h c jobs = x.1 in (
      asks,
      record {
        queues = m.queues;
        next = m.next;
        shut = m.shut;
        nobody = m.nobody;
        sound = m.sound;
        tickets = m.tickets;
        apart = m.apart;
        out = m.out;
        fixed = and_fixed n room default h step.Take reply.Nothing
            (ap take_reply (sym (sym (lowest_is asks n room default h c jobs m) ∙ low))) m.fixed;
      },
    )

-- There is no such job.
pub none_finished : (default : ℕ) (c : Content) (jobs : List Task) (i : ℕ) → length jobs ≤ i → Makes default (step.Finish i) reply.NoJob c jobs c jobs
none_finished default c jobs i past n room h x =
    let asks : ℕ → RecordValue = x.0 in
    let m : MirrorsBy asks n room default h c jobs = x.1 in (
      asks,
      record {
        queues = m.queues;
        next = m.next;
        shut = m.shut;
        nobody = m.nobody;
        sound = m.sound;
        tickets = m.tickets;
        apart = m.apart;
        out = m.out;
        fixed = and_fixed n room default h (step.Finish i) reply.NoJob
            (ap finish_reply (sym (ap (λ ts. slice_get ts i) m.tickets ∙ get_no_ticket jobs i past))) m.fixed;
      },
    )

-- There is no such job to hand back.
pub none_handed_back : (default : ℕ) (c : Content) (jobs : List Task) (i : ℕ) → length jobs ≤ i
    → Makes default (step.HandBack i) reply.NoJob c jobs c jobs
none_handed_back default c jobs i past n room h x =
    let asks : ℕ → RecordValue = x.0 in
    let m : MirrorsBy asks n room default h c jobs = x.1 in (
      asks,
      record {
        queues = m.queues;
        next = m.next;
        shut = m.shut;
        nobody = m.nobody;
        sound = m.sound;
        tickets = m.tickets;
        apart = m.apart;
        out = m.out;
        fixed = and_fixed n room default h (step.HandBack i) reply.NoJob
            (ap back_reply (sym (ap (λ ts. slice_get ts i) m.tickets ∙ get_no_ticket jobs i past))) m.fixed;
      },
    )

-- The desk is closed.
pub shut : (default : ℕ) (c : Content) (jobs : List Task) → Makes default step.Close reply.Closed c jobs (after_close c) jobs
shut default c jobs n room h x =
    let asks : ℕ → RecordValue = x.0 in
    let m : MirrorsBy asks n room default h c jobs = x.1 in (
      asks,
      record {
        queues = m.queues;
        next = m.next;
        shut = refl;
        nobody = m.nobody;
        sound = m.sound;
        tickets = m.tickets;
        apart = m.apart;
        out = out_kept c (after_close c) jobs (λ task e. e) m.out;
        fixed = and_fixed n room default h step.Close reply.Closed refl m.fixed;
      },
    )
