-- What waits at a desk is what waits by its history.
use Rattle.std.proofs.Common.{◌≡◌, ℕ, zero, suc, ◌+◌, List, [], ◌∷◌, ◌++◌, length, map, flat_map, take, drop, Bool, true, false}
use Rattle.std.proofs.Common.{not, ap, refl, sym, ◌∙◌, subst, arith, None, Some, Option, nat_lt, ◌||◌, ◌&&◌, if◌then◌else◌}
use Rattle.std.specs.List.{list_any}
use Rattle.chess_notation.specs.Records.{RecordValue}
use Rattle.mate_jobs.specs.Jobs.{Task}
use Rattle.mate_desk.specs.Content.{Content, EntryValue, QueueValue, Phase, Waiting, Out, Finished, is_waiting}
use Rattle.mate_desk.specs.Content.{is_finished, is_out, is_out_with, waits, lower, lowest, entries}
use Rattle.mate_desk.specs.Calls.{has_out}
use Rattle.mate_desk.specs.History.{History, Claim, accepted, delivered, phase, withdrawn, count_accepted}
use Rattle.mate_desk.specs.Replies.{from, waiting_among, waiting, least}
use Rattle.mate_desk.specs.inside.Mirrors.{entries_from, queue_of, are_settled, Sound, MirrorsBy}
use Rattle.mate_desk.proofs.PhaseChanges.{both_of, any_out, any_queues}
use Rattle.mate_desk.proofs.Each.{any_from}

-- the tickets of the entries that wait
abbrev pub waiting_in : List EntryValue → List ℕ
waiting_in [] = []
waiting_in (e ∷ es) = if waits e then e.ticket ∷ waiting_in es else waiting_in es

lowest_least : (es : List EntryValue) → lowest es ≡ least (waiting_in es)
lowest_least [] = refl
lowest_least (e ∷ es) = elim (waits e) as (λ b. (if b then lower e.ticket (lowest es) else lowest es)
    ≡ least (if b then e.ticket ∷ waiting_in es else waiting_in es)) [
      | true ↦ ap (lower e.ticket) (lowest_least es)
      | false ↦ lowest_least es
    ]

waiting_joined : (es fs : List EntryValue) → waiting_in (es ++ fs) ≡ waiting_in es ++ waiting_in fs
waiting_joined [] fs = refl
waiting_joined (e ∷ es) fs = elim (waits e) as (λ b. (if b then e.ticket ∷ waiting_in (es ++ fs) else waiting_in (es ++ fs))
    ≡ (if b then e.ticket ∷ waiting_in es else waiting_in es) ++ waiting_in fs) [
      | true ↦ ap (λ ts. e.ticket ∷ ts) (waiting_joined es fs)
      | false ↦ waiting_joined es fs
    ]

waiting_is : (asks : ℕ → RecordValue) (phases : ℕ → Phase) (marks : ℕ → Bool) (j : ℕ) (claims : List Claim)
    → waiting_in (entries_from asks phases marks j claims) ≡ waiting_among phases marks j claims
waiting_is asks phases marks j [] = refl
waiting_is asks phases marks j (claim ∷ claims) = ap (λ ts. if is_waiting (phases claim.ticket) && not (marks j) then claim.ticket
    ∷ ts else ts) (waiting_is asks phases marks (j + 1) claims)

settled_waits_not : (w : Bool) (p : Phase) → (w || is_finished p) ≡ true → (is_waiting p && not w) ≡ false
settled_waits_not true Waiting e = refl
settled_waits_not true Out e = refl
settled_waits_not true Finished e = refl
settled_waits_not false Waiting e = cc
settled_waits_not false Out e = refl
settled_waits_not false Finished e = refl

-- What is settled does not wait, so what waits is behind it.
waiting_behind : (phases : ℕ → Phase) (marks : ℕ → Bool) (j d : ℕ) (claims : List Claim) → are_settled phases marks j
    (take d claims) ≡ true → waiting_among phases marks j claims ≡ waiting_among phases marks (j + d) (drop d claims)
waiting_behind phases marks j zero claims e = let z : j ≡ j + 0 = omega arith in ap (λ i. waiting_among phases marks i claims) z
waiting_behind phases marks j (suc d) [] e = refl
waiting_behind phases marks j (suc d) (claim ∷ claims) e =
    let h = both_of (marks j || is_finished (phases claim.ticket)) _ e in
    let n = settled_waits_not (marks j) (phases claim.ticket) h.0 in
    let z : j + 1 + d ≡ j + suc d = omega arith in
    rw n (waiting_behind phases marks (j + 1) d claims h.1 ∙ ap (λ i. waiting_among phases marks i (drop d claims)) z)

waiting_pending : (room default : ℕ) (asks : ℕ → RecordValue) (h : History) (s : ℕ)
    → Sound room default asks (accepted h s) (delivered h s) (count_accepted h) (phase h) (withdrawn h s)
    → waiting_in (queue_of asks room h s).pending ≡ waiting_among (phase h) (withdrawn h s) 0 (accepted h s)
waiting_pending room default asks h s k =
    let d : ℕ = length (delivered h s) in
    let z : 0 + d ≡ d = omega arith in
    waiting_is asks (phase h) (withdrawn h s) d (drop d (accepted h s)) ∙ sym (waiting_behind (phase h) (withdrawn h s) 0 d
    (accepted h s) k.settled ∙ ap (λ i. waiting_among (phase h) (withdrawn h s) i (drop d (accepted h s))) z)

waiting_each : (f : ℕ → List ℕ) (g : ℕ → QueueValue) (k n : ℕ) → ((s : ℕ) → waiting_in (g s).pending ≡ f s)
    → waiting_in (flat_map (λ q. q.pending) (map g (from k n))) ≡ flat_map f (from k n)
waiting_each f g k zero h = refl
waiting_each f g k (suc n) h =
    waiting_joined (g k).pending (flat_map (λ q. q.pending) (map g (from (k + 1) n)))
    ∙ (ap (λ ts. ts ++ waiting_in (flat_map (λ q. q.pending) (map g (from (k + 1) n)))) (h k)
    ∙ ap (λ ts. f k ++ ts) (waiting_each f g (k + 1) n h))

pub lowest_is : (asks : ℕ → RecordValue) (n room default : ℕ) (h : History) (c : Content) (jobs : List Task)
    → MirrorsBy asks n room default h c jobs → lowest (entries c) ≡ least (waiting n h)
lowest_is asks n room default h c jobs m =
    lowest_least (entries c) ∙ ap least (ap (λ qs. waiting_in (flat_map (λ (q : QueueValue). q.pending) qs)) m.queues
    ∙ waiting_each (λ s. waiting_among (phase h) (withdrawn h s) 0 (accepted h s)) (queue_of asks room h) 0 n
    (λ s. waiting_pending room default asks h s (m.sound s)))

lower_waits : (P : ℕ → Type 0) (u t : ℕ) (o : Option ℕ) → P u → ((v : ℕ) → o ≡ Some v → P v) → lower u o ≡ Some t → P t
lower_waits P u t None h k e = let p : u ≡ t = cc in subst P p h
lower_waits P u t (Some v) h k e = (elim (nat_lt v u) as (λ b. Some (if b then v else u) ≡ Some t → P t) [
  | true ↦ λ f. k t (ap Some (let p : v ≡ t = cc in p))
  | false ↦ λ f. let p : u ≡ t = cc in subst P p h
]) e

-- The least of these has what each has.
abbrev pub AllHave : (ℕ → Type 0) → List ℕ → Type 0
AllHave P [] = Unit {0}
AllHave P (t ∷ ts) = P t × AllHave P ts

least_has : (P : ℕ → Type 0) (ts : List ℕ) (t : ℕ) → AllHave P ts → least ts ≡ Some t → P t
least_has P [] t a e = cc
least_has P (u ∷ us) t a e = lower_waits P u t (least us) a.0 (λ v f. least_has P us v a.1 f) e

joined_have : (P : ℕ → Type 0) (ts us : List ℕ) → AllHave P ts → AllHave P us → AllHave P (ts ++ us)
joined_have P [] us a b = b
joined_have P (t ∷ ts) us a b = (a.0, joined_have P ts us a.1 b)

among_have : (phases : ℕ → Phase) (marks : ℕ → Bool) (j : ℕ) (claims : List Claim)
    → AllHave (λ t. is_waiting (phases t) ≡ true) (waiting_among phases marks j claims)
among_have phases marks j [] = tt
among_have phases marks j (claim ∷ claims) = (elim (is_waiting (phases claim.ticket) && not (marks j)) as (λ b.
    (is_waiting (phases claim.ticket) && not (marks j)) ≡ b → AllHave (λ t. is_waiting (phases t) ≡ true)
    (if b then claim.ticket ∷ waiting_among phases marks (j + 1) claims else waiting_among phases marks (j + 1) claims)) [
      | true ↦ λ w. ((both_of (is_waiting (phases claim.ticket)) _ w).0, among_have phases marks (j + 1) claims)
      | false ↦ λ w. among_have phases marks (j + 1) claims
    ]) refl

each_have : (h : History) (k n : ℕ) → AllHave (λ t. is_waiting (phase h t) ≡ true)
    (flat_map (λ s. waiting_among (phase h) (withdrawn h s) 0 (accepted h s)) (from k n))
each_have h k zero = tt
each_have h k (suc n) = joined_have (λ t. is_waiting (phase h t) ≡ true) (waiting_among (phase h) (withdrawn h k) 0
    (accepted h k)) _ (among_have (phase h) (withdrawn h k) 0 (accepted h k)) (each_have h (k + 1) n)

-- The least ticket that waits does wait.
pub least_waits : (n : ℕ) (h : History) (t : ℕ) → least (waiting n h) ≡ Some t → is_waiting (phase h t) ≡ true
least_waits n h t e = least_has (λ u. is_waiting (phase h u) ≡ true) (waiting n h) t (each_have h 0 n) e

-- A job that is out is so by the history.
pub out_phase : (asks : ℕ → RecordValue) (n room default : ℕ) (h : History) (c : Content) (jobs : List Task) (task : Task)
    → MirrorsBy asks n room default h c jobs → has_out c task ≡ true → is_out (phase h task.ticket) ≡ true
out_phase asks n room default h c jobs task m e =
    let k : list_any (λ q. list_any (is_out_with task) q.pending) (map (queue_of asks room h) (from 0 n)) ≡ true =
    ap (λ qs. list_any (λ (q : QueueValue). list_any (is_out_with task) q.pending) qs) (sym m.queues)
    ∙ (sym (any_queues (is_out_with task) c.queues) ∙ e) in
    any_from (λ q. list_any (is_out_with task) q.pending) (queue_of asks room h) 0 n (is_out (phase h task.ticket) ≡ true) (λ s w.
    any_out asks (phase h) (withdrawn h s) task (length (delivered h s)) (drop (length (delivered h s)) (accepted h s)) w) k
