-- A desk is drained where its history says so.
use Rattle.std.proofs.Common.{◌≡◌, ℕ, zero, suc, ◌+◌, List, [], ◌∷◌, ◌++◌, length, map, flat_map}
use Rattle.std.proofs.Common.{Bool, true, false, ap, refl, sym, ◌∙◌, arith, ◌&&◌, ◌==◌}
use Rattle.std.specs.List.{list_any, list_all}
use Rattle.std.proofs.lemmas.Bool.Decides.{nat_tests}
use Rattle.chess_notation.specs.Records.{RecordValue}
use Rattle.mate_jobs.specs.Jobs.{Task}
use Rattle.mate_desk.specs.Content.{Content, EntryValue, QueueValue, is_out_with}
use Rattle.mate_desk.specs.Calls.{is_drained}
use Rattle.mate_desk.specs.History.{History, hand, pending}
use Rattle.mate_desk.specs.Replies.{from, drained}
use Rattle.mate_desk.specs.inside.Mirrors.{queue_of, AreOut, MirrorsBy, Makes}
use Rattle.mate_desk.specs.declared.steps_and_replies.Step.TheVariants as step
use Rattle.mate_desk.specs.declared.steps_and_replies.Reply.TheVariants as reply
use Rattle.mate_desk.proofs.Leaving.{and_fixed}
use Rattle.mate_desk.proofs.Submissions.{length_queue}

all_empty : (asks : ℕ → RecordValue) (room : ℕ) (h : History) (k n : ℕ) → list_all (λ q. length q.pending == 0)
    (map (queue_of asks room h) (from k n)) ≡ list_all (λ s. pending h s == 0) (from k n)
all_empty asks room h k zero = refl
all_empty asks room h k (suc n) = rw (length_queue asks room h k) (ap (λ b. (pending h k == 0) && b) (all_empty asks room h (k + 1) n))

empty_length : (es : List EntryValue) → (length es == 0) ≡ true → es ≡ []
empty_length [] e = refl
empty_length (x ∷ es) e = absurd (let q : suc (length es) ≡ 0 = grind (arith, nat_tests, e) in omega (arith, q))

none_pending : (p : EntryValue → Bool) (qs : List QueueValue) → list_all (λ q. length q.pending == 0) qs ≡ true
    → list_any p (flat_map (λ q. q.pending) qs) ≡ false
none_pending p [] e = refl
none_pending p (q ∷ qs) e = (elim (length q.pending == 0) as (λ b. (length q.pending == 0) ≡ b
    → (b && list_all (λ q. length q.pending == 0) qs) ≡ true → list_any p (q.pending ++ flat_map (λ q. q.pending) qs) ≡ false) [
      | true ↦ λ w f. let r : q.pending ≡ [] = empty_length q.pending w in rw r (none_pending p qs f)
      | false ↦ λ w f. cc
    ]) refl e

no_jobs : (c : Content) (jobs : List Task) → is_drained c ≡ true → AreOut c jobs → jobs ≡ []
no_jobs c [] e a = refl
no_jobs c (job ∷ jobs) e a = let n = none_pending (is_out_with job) c.queues e in let o = a.0 in cc

drained_is : (asks : ℕ → RecordValue) (n room default : ℕ) (h : History) (c : Content) (jobs : List Task)
    → MirrorsBy asks n room default h c jobs → is_drained c ≡ drained n h
drained_is asks n room default h c jobs m =
    let a : is_drained c ≡ list_all (λ s. pending h s == 0) (from 0 n) =
    ap (list_all (λ (q : QueueValue). length q.pending == 0)) m.queues ∙ all_empty asks room h 0 n in
    (elim (is_drained c) as (λ b. is_drained c ≡ b → b ≡ drained n h) [
      | true ↦ λ w.
          let j : jobs ≡ [] = no_jobs c jobs w m.out in
          let k : hand h ≡ [] = m.tickets ∙ ap (map (λ (j : Task). j.ticket)) j in
          let z : list_all (λ s. pending h s == 0) (from 0 n) ≡ true = sym a ∙ w in
          rw (z, k) refl
      | false ↦ λ w. let z : list_all (λ s. pending h s == 0) (from 0 n) ≡ false = sym a ∙ w in rw z refl
    ]) refl

pub tells : (default : ℕ) (c : Content) (jobs : List Task) → Makes default step.Drained (reply.Drained (is_drained c)) c jobs c jobs
tells default c jobs n room h x =
    let asks : ℕ → RecordValue = x.0 in
    let m : MirrorsBy asks n room default h c jobs = x.1 in (
      asks,
      record {
        queues = m.queues;
        next = m.next;
        shut = m.shut;
        nobody = m.nobody;
        sound = m.sound;
        tickets = m.tickets;
        apart = m.apart;
        out = m.out;
        fixed = and_fixed n room default h step.Drained (reply.Drained (is_drained c))
            (ap (λ b. reply.Drained b) (drained_is asks n room default h c jobs m)) m.fixed;
      },
    )
