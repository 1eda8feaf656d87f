-- Where a run begins, how its history grows, and that there is room for the jobs in hand.
use Rattle.std.proofs.Common.{◌≡◌, ◌≢◌, ◌∙◌, ◌+◌, ◌*◌, ◌<◌, ◌≤◌, ℕ, zero, suc, sym, ap, refl, subst, Some, None}
use Rattle.std.proofs.Common.{Option, List, [], ◌∷◌, ◌++◌, arith, length, length-append, map, flat_map, get_or}
use Rattle.std.proofs.Common.{take, replicate, Bool, true, false, ◌||◌, ◌==◌, nat_lt, if◌then◌else◌, add-one}
use Rattle.std.specs.List.{list_any}
use Rattle.std.proofs.lemmas.List.{length-map}
use Rattle.std.proofs.lemmas.Bool.Decides.{nat_tests}
use Rattle.chess_notation.specs.Records.{RecordValue}
use Rattle.mate_jobs.specs.Jobs.{Task}
use Rattle.mate_desk.specs.Content.{Content, EntryValue, QueueValue, entries, lowest, lower, waits, has_ticket, is_waiting, is_out}
use Rattle.mate_desk.specs.Calls.{empty, has_out}
use Rattle.mate_desk.specs.declared.steps_and_replies.Step.{Step}
use Rattle.mate_desk.specs.declared.steps_and_replies.Reply.{Reply}
use Rattle.mate_desk.specs.History.{History, past_onto, pending, phase}
use Rattle.mate_desk.specs.Replies.{from, AreReplies}
use Rattle.mate_desk.specs.inside.Mirrors.{queue_of, AreApart, MirrorsBy}
use Rattle.mate_desk.proofs.Hands.{AreFound, found_few, jobs_found, not_among}
use Rattle.mate_desk.proofs.PhaseChanges.{waiting_not_out}
use Rattle.mate_desk.proofs.Waits.{lowest_is, least_waits, out_phase}
use Rattle.mate_desk.proofs.Submissions.{length_queue}

first_queues : (asks : ℕ → RecordValue) (room k n : ℕ)
    → replicate n (record { room = room; delivered = 0; pending = [] }) ≡ map (queue_of asks room []) (from k n)
first_queues asks room k zero = refl
first_queues asks room k (suc n) = ap (λ (qs : List QueueValue). queue_of asks room [] k ∷ qs) (first_queues asks room (k + 1) n)

no_replies : (n room default : ℕ) → AreReplies n room default []
unfolding AreReplies
no_replies n room default = tt

-- Nothing is asked yet, so anything will do.
pub start : (asks : ℕ → RecordValue) (n room default : ℕ) → MirrorsBy asks n room default [] (empty n room 0) []
start asks n room default = record {
  queues = first_queues asks room 0 n;
  next = refl;
  shut = refl;
  nobody = λ s past. refl;
  fixed = no_replies n room default;
  sound = λ s. record {
    few = omega arith;
    fits = omega arith;
    below = tt;
    read = tt;
    unmarked = λ j h. refl;
    settled = refl;
    in_order = tt;
    notices = tt;
  };
  tickets = refl;
  apart = tt;
  out = tt;
}

past_suc : (h : History) (ss : List Step) (rs : List Reply) (k : ℕ) (s : Step) (r : Reply)
    → length rs ≡ k → k < length ss → get_or ss k s ≡ s
    → past_onto h (take (suc k) ss) (rs ++ r ∷ []) ≡ record { step = s; reply = r } ∷ past_onto h (take k ss) rs
past_suc h [] rs k s r e i at = absurd (omega arith)
past_suc h (t ∷ ts) [] zero s r e i at = ap (λ t. record { step = t; reply = r } ∷ h) at
past_suc h (t ∷ ts) [] (suc k) s r e i at = absurd (omega (arith, e))
past_suc h (t ∷ ts) (q ∷ qs) zero s r e i at = absurd (omega (arith, e))
past_suc h (t ∷ ts) (q ∷ qs) (suc k) s r e i at = past_suc (record { step = t; reply = q } ∷ h) ts qs k s r (omega (arith, e)) (omega arith) at

-- the history with one step more
pub past_more : (h : History) (ss : List Step) (rs : List Reply) (k : ℕ) (s : Step) (r : Reply)
    → length rs ≡ k → k < length ss → get_or ss k s ≡ s
    → past_onto h (take (k + 1) ss) (rs ++ r ∷ []) ≡ record { step = s; reply = r } ∷ past_onto h (take k ss) rs
past_more h ss rs k s r e i at = rw add-one (past_suc h ss rs k s r e i at)

lower_found : (t u : ℕ) (o : Option ℕ) → lower u o ≡ Some t → (P : ℕ → Type 0) → P u → ((v : ℕ) → o ≡ Some v → P v) → P t
lower_found t u None e P h k = let p : u ≡ t = cc in subst P p h
lower_found t u (Some v) e P h k = (elim (nat_lt v u) as (λ b. Some (if b then v else u) ≡ Some t → P t) [
  | true ↦ λ f. k t (ap Some (let p : v ≡ t = cc in p))
  | false ↦ λ f. let p : u ≡ t = cc in subst P p h
]) e

or_right : (a b : Bool) → b ≡ true → (a || b) ≡ true
or_right true b e = refl
or_right false b e = e

lowest_found : (es : List EntryValue) (t : ℕ) → lowest es ≡ Some t → list_any (has_ticket t) es ≡ true
lowest_found [] t e = cc
lowest_found (x ∷ es) t e = (elim (waits x) as (λ b. (if b then lower x.ticket (lowest es) else lowest es) ≡ Some t
    → list_any (has_ticket t) (x ∷ es) ≡ true) [
      | true ↦ λ f. lower_found t x.ticket (lowest es) f (λ u. list_any (has_ticket u) (x ∷ es) ≡ true) (let q : (x.ticket
          == x.ticket) ≡ true = grind (arith, nat_tests) in rw q refl) (λ v g. or_right (has_ticket v x) _ (lowest_found es v g))
      | false ↦ λ f. or_right (has_ticket t x) _ (lowest_found es t f)
    ]) e

few_each : (asks : ℕ → RecordValue) (room : ℕ) (h : History) (k n : ℕ) → ((s : ℕ) → pending h s ≤ room)
    → length (flat_map (λ q. q.pending) (map (queue_of asks room h) (from k n))) ≤ n * room
few_each asks room h k zero f = omega arith
few_each asks room h k (suc n) f =
    let here = length-append (queue_of asks room h k).pending (flat_map (λ q. q.pending) (map (queue_of asks room h) (from (k + 1) n))) in
    let one = length_queue asks room h k in
    let more = few_each asks room h (k + 1) n f in
    grind (arith, here, one, more, f k)

few_entries : (asks : ℕ → RecordValue) (n room default : ℕ) (h : History) (c : Content) (jobs : List Task)
    → MirrorsBy asks n room default h c jobs → length (entries c) ≤ n * room
few_entries asks n room default h c jobs m =
    let few = few_each asks room h 0 n (λ s. let f = (m.sound s).fits in omega (arith, f)) in
    subst (λ (qs : List QueueValue). length (flat_map (λ q. q.pending) qs) ≤ n * room) (sym m.queues) few

-- Where a record waits there is room for one job more in hand.
pub hand_fits : (asks : ℕ → RecordValue) (n room default : ℕ) (h : History) (c : Content) (jobs : List Task) (t : ℕ)
    → MirrorsBy asks n room default h c jobs → lowest (entries c) ≡ Some t → length jobs < n * room
hand_fits asks n room default h c jobs t m low =
    let w : is_waiting (phase h t) ≡ true = least_waits n h t (sym (lowest_is asks n room default h c jobs m) ∙ low) in
    let away : (task : Task) → has_out c task ≡ true → task.ticket ≢ t =
    λ task y q. (let z = out_phase asks n room default h c jobs task m y in
    let r : is_out (phase h task.ticket) ≡ false = ap (λ u. is_out (phase h u)) q ∙ waiting_not_out (phase h t) w in cc) in
    let apart : AreApart (t ∷ map (λ j. j.ticket) jobs) = (not_among c t jobs away m.out, subst AreApart m.tickets m.apart) in
    let found : AreFound (entries c) (t ∷ map (λ j. j.ticket) jobs) = (lowest_found (entries c) t low, jobs_found c jobs m.out) in
    let few = found_few (entries c) (t ∷ map (λ j. j.ticket) jobs) apart found in
    let all = few_entries asks n room default h c jobs m in
    let same = length-map jobs (λ (j : Task). j.ticket) in
    omega (arith, few, all, same)
