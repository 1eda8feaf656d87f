-- How accepted records stand when a ticket comes into another phase.
use Rattle.std.proofs.Common.{◌≡◌, ◌≢◌, ℕ, ◌+◌, List, [], ◌∷◌, ◌++◌, length, map, flat_map, take, drop, Bool}
use Rattle.std.proofs.Common.{true, false, ap, refl, sym, ◌∙◌, arith, ◌||◌, ◌&&◌, if◌then◌else◌, ◌==◌}
use Rattle.std.specs.List.{list_any}
use Rattle.std.proofs.lemmas.Bool.Decides.{nat_tests}
use Rattle.std.proofs.lemmas.List.{map-append}
use Rattle.std.proofs.lemmas.List.Folds.{list_any-append}
use Rattle.chess_notation.specs.Records.{RecordValue}
use Rattle.mate_jobs.specs.Jobs.{Task}
use Rattle.mate_desk.specs.Content.{Content, EntryValue, QueueValue, Phase, Waiting, Out, Finished}
use Rattle.mate_desk.specs.Content.{is_waiting, is_out, is_finished, is_out_with, has_ticket}
use Rattle.mate_desk.specs.Calls.{into_phase, in_queue, everywhere, has_out}
use Rattle.mate_desk.specs.History.{Claim, Parcel}
use Rattle.mate_desk.specs.inside.Mirrors.{entry_at, entries_from, queue_with, are_settled, Sound}

-- the phases, but for one ticket
abbrev pub but : (ℕ → Phase) → ℕ → Phase → ℕ → Phase
but phases t p u = if u == t then p else phases u

entry_into : (asks : ℕ → RecordValue) (phases : ℕ → Phase) (marks : ℕ → Bool) (t j : ℕ) (p : Phase) (claim : Claim)
    → into_phase (has_ticket t) p (entry_at asks phases marks j claim) ≡ entry_at asks (but phases t p) marks j claim
entry_into asks phases marks t j p claim = elim (claim.ticket == t) as (λ b.
    (if b then record { ticket = claim.ticket; asked = asks claim.ticket; phase = p; withdrawn = marks j }
    else entry_at asks phases marks j claim) ≡ (let e : EntryValue = record {
      ticket = claim.ticket;
      asked = asks claim.ticket;
      phase = if b then p else phases claim.ticket;
      withdrawn = marks j;
    } in e)) [ true ↦ refl | false ↦ refl ]

entries_into : (asks : ℕ → RecordValue) (phases : ℕ → Phase) (marks : ℕ → Bool) (t j : ℕ) (p : Phase) (claims : List Claim) → map
    (into_phase (has_ticket t) p) (entries_from asks phases marks j claims) ≡ entries_from asks (but phases t p) marks j claims
entries_into asks phases marks t j p [] = refl
entries_into asks phases marks t j p (claim ∷ claims) = let a = entry_into asks phases marks t j p claim in let b =
    entries_into asks phases marks t (j + 1) p claims in cc

pub queue_into : (asks : ℕ → RecordValue) (phases : ℕ → Phase) (marks : ℕ → Bool) (t : ℕ) (p : Phase) (room done : ℕ)
    (claims : List Claim) → in_queue (into_phase (has_ticket t) p) (queue_with asks room claims done phases marks)
    ≡ queue_with asks room claims done (but phases t p) marks
queue_into asks phases marks t p room done claims = ap (λ (es : List EntryValue).
    record { room = room; delivered = done; pending = es }) (entries_into asks phases marks t done p (drop done claims))

pub and_both : (a b : Bool) → a ≡ true → b ≡ true → (a && b) ≡ true
and_both a b e f = rw (e, f) refl

pub both_of : (a b : Bool) → (a && b) ≡ true → (a ≡ true) × (b ≡ true)
both_of true b e = (refl, e)
both_of false b e = cc

first_of_or : (a b : Bool) → (a || b) ≡ true → b ≡ false → a ≡ true
first_of_or true b e f = refl
first_of_or false b e f = cc

settled_one : (phases : ℕ → Phase) (mark : Bool) (t : ℕ) (p : Phase) (claim : Claim) → is_finished (phases t) ≡ false
    → (mark || is_finished (phases claim.ticket)) ≡ true → (mark || is_finished (but phases t p claim.ticket)) ≡ true
settled_one phases mark t p claim n e = (elim (claim.ticket == t) as (λ b. (claim.ticket == t) ≡ b
    → (mark || is_finished (if b then p else phases claim.ticket)) ≡ true) [
      | true ↦ λ w.
          let q : claim.ticket ≡ t = grind (arith, nat_tests, w) in
          let f : is_finished (phases claim.ticket) ≡ false = ap (λ u. is_finished (phases u)) q ∙ n in
          let g : mark ≡ true = first_of_or mark (is_finished (phases claim.ticket)) e f in
          rw g refl
      | false ↦ λ w. e
    ]) refl

settled_into : (phases : ℕ → Phase) (marks : ℕ → Bool) (t j : ℕ) (p : Phase) (claims : List Claim) → is_finished (phases t)
    ≡ false → are_settled phases marks j claims ≡ true → are_settled (but phases t p) marks j claims ≡ true
settled_into phases marks t j p [] n e = refl
settled_into phases marks t j p (claim ∷ claims) n e =
    let h = both_of (marks j || is_finished (phases claim.ticket)) _ e in
    and_both _ _ (settled_one phases (marks j) t p claim n h.0) (settled_into phases marks t (j + 1) p claims n h.1)

-- What is not finished comes into a phase, and all that is so of a submitter stays so.
pub sound_into : (room default : ℕ) (asks : ℕ → RecordValue) (claims : List Claim) (parcels : List Parcel) (next : ℕ)
    (phases : ℕ → Phase) (marks : ℕ → Bool) (t : ℕ) (p : Phase) → is_finished (phases t) ≡ false
    → Sound room default asks claims parcels next phases marks → Sound room default asks claims parcels next (but phases t p) marks
sound_into room default asks claims parcels next phases marks t p n s = record {
  few = s.few;
  fits = s.fits;
  below = s.below;
  read = s.read;
  unmarked = s.unmarked;
  in_order = s.in_order;
  notices = s.notices;
  settled = settled_into phases marks t 0 p (take (length parcels) claims) n s.settled;
}

-- Whose record is out is out.
pub any_out : (asks : ℕ → RecordValue) (phases : ℕ → Phase) (marks : ℕ → Bool) (task : Task) (j : ℕ) (claims : List Claim)
    → list_any (is_out_with task) (entries_from asks phases marks j claims) ≡ true → is_out (phases task.ticket) ≡ true
any_out asks phases marks task j [] e = cc
any_out asks phases marks task j (claim ∷ claims) e =
    (elim (is_out_with task (entry_at asks phases marks j claim)) as (λ b. is_out_with task (entry_at asks phases marks j claim)
    ≡ b → (b || list_any (is_out_with task) (entries_from asks phases marks (j + 1) claims)) ≡ true
    → is_out (phases task.ticket) ≡ true) [
      | true ↦ λ w f.
          let k = both_of (is_out (phases claim.ticket)) _ w in
          let h = both_of (claim.ticket == task.ticket) _ k.1 in
          let q : claim.ticket ≡ task.ticket = grind (arith, nat_tests, h.0) in
          ap (λ u. is_out (phases u)) (sym q) ∙ k.0
      | false ↦ λ w f. any_out asks phases marks task (j + 1) claims f
    ]) refl e

entry_other : (task : Task) (t : ℕ) (p : Phase) (e : EntryValue) → task.ticket ≢ t → (e.ticket == t) ≡ true
    → is_out_with task (record { ticket = e.ticket; asked = e.asked; phase = p; withdrawn = e.withdrawn }) ≡ is_out_with task e
entry_other task t p e n w =
    let q : (e.ticket == task.ticket) ≡ false = grind (arith, nat_tests, w, n) in
    rw q (both_false (is_out p) (is_out e.phase))
  where
    both_false : (a b : Bool) → (a && false) ≡ (b && false)
    both_false true true = refl
    both_false true false = refl
    both_false false true = refl
    both_false false false = refl

any_other : (task : Task) (t : ℕ) (p : Phase) (es : List EntryValue) → task.ticket ≢ t
    → list_any (is_out_with task) (map (into_phase (has_ticket t) p) es) ≡ list_any (is_out_with task) es
any_other task t p [] n = refl
any_other task t p (e ∷ es) n =
    let a : is_out_with task (into_phase (has_ticket t) p e) ≡ is_out_with task e =
    (elim (e.ticket == t) as (λ b. (e.ticket == t) ≡ b → is_out_with task (if b then record {
      ticket = e.ticket;
      asked = e.asked;
      phase = p;
      withdrawn = e.withdrawn;
    } else e) ≡ is_out_with task e) [
      | true ↦ λ w. entry_other task t p e n w
      | false ↦ λ w. refl
    ]) refl in
    let b = any_other task t p es n in
    cc

joined_map : (f : EntryValue → EntryValue) (qs : List QueueValue)
    → flat_map (λ q. q.pending) (map (in_queue f) qs) ≡ map f (flat_map (λ q. q.pending) qs)
joined_map f [] = refl
joined_map f (q ∷ qs) = ap (λ es. map f q.pending ++ es) (joined_map f qs) ∙ sym (map-append f q.pending (flat_map (λ q. q.pending) qs))

-- What is out under another ticket stays out.
pub out_other : (c : Content) (t : ℕ) (p : Phase) (task : Task) → task.ticket ≢ t → has_out c task ≡ true
    → has_out (everywhere (into_phase (has_ticket t) p) c) task ≡ true
out_other c t p task n e = ap (list_any (is_out_with task)) (joined_map (into_phase (has_ticket t) p) c.queues)
    ∙ (any_other task t p (flat_map (λ q. q.pending) c.queues) n ∙ e)

pub any_queues : (p : EntryValue → Bool) (qs : List QueueValue) → list_any p (flat_map (λ q. q.pending) qs) ≡ list_any (λ q. list_any p q.pending) qs
any_queues p [] = refl
any_queues p (q ∷ qs) = list_any-append p q.pending (flat_map (λ q. q.pending) qs) ∙ ap (λ b. list_any p q.pending || b) (any_queues p qs)

pub waiting_not_out : (p : Phase) → is_waiting p ≡ true → is_out p ≡ false
waiting_not_out Waiting e = refl
waiting_not_out Out e = cc
waiting_not_out Finished e = cc

pub waiting_not_finished : (p : Phase) → is_waiting p ≡ true → is_finished p ≡ false
waiting_not_finished Waiting e = refl
waiting_not_finished Out e = cc
waiting_not_finished Finished e = cc

pub out_not_finished : (p : Phase) → is_out p ≡ true → is_finished p ≡ false
out_not_finished Waiting e = cc
out_not_finished Out e = refl
out_not_finished Finished e = cc
