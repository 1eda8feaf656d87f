-- What the desk was told, and where that changes nothing.
use Rattle.std.proofs.Common.{◌≡◌, ◌≤◌, ℕ, zero, suc, ◌+◌, ◌-◌, Bool, true, false, nat_lt, nat_le, if◌then◌else◌, List}
use Rattle.std.proofs.Common.{[], ◌∷◌, length, slice_get, Option, Some, None, is_some, refl, sym, ap, ◌∙◌, arith}
use Rattle.std.proofs.lemmas.Bool.Decides.{nat_tests}
use Rattle.mate_jobs.specs.Jobs.{Task}
use Rattle.mate_desk.specs.Content.{Content, QueueValue, EntryValue, Phase, Waiting, Finished, entries, waits, lower, lowest, is_out_with}
use Rattle.mate_desk.specs.Calls.{change_at, has_out, after_return, withdrawn, withdrawn_at, withdraw_refusal}
use Rattle.mate_desk.specs.Calls.{withdraw_refusal_of, withdraw_refusal_by, after_withdraw}
use Rattle.mate_desk.specs.declared.refusals.WithdrawRefusal.{WithdrawRefusal}
use Rattle.mate_desk.specs.declared.refusals.WithdrawRefusal.TheVariants as refusal
use Rattle.desk_room.specs.Events.{one_if, job_of, hearing, solved_in, returned_in, stranger_in}
use Rattle.room_ends.specs.declared.letters.Back.{Back}
use Rattle.room_ends.specs.declared.letters.Back.TheVariants.{Solved, Returned}
use Rattle.desk_room.specs.Turns.{waiting}
use Rattle.desk_room.proofs.Places.{change_past}
use Rattle.desk_room.proofs.Counting.{count_in, count_is, none_counted}
use Rattle.desk_room.proofs.GoingOut.{land_none}

-- a job that is not out
pub stranger_same : (c : Content) (job : Task) (ph : Phase) → has_out c job ≡ false → after_return c job ph ≡ c
stranger_same c job ph h = land_none job ph c (none_counted (is_out_with job) c h)

pub record IsStranger (x : Back) (c : Content) : Type 0 where
  pub content : hearing x c ≡ c
  pub solved : solved_in x c ≡ 0
  pub returned : returned_in x c ≡ 0
  pub stranger : stranger_in x c ≡ 1

pub is_stranger : (x : Back) (c : Content) → has_out c (job_of x) ≡ false → IsStranger x c
is_stranger (Solved d) c h = record { content = stranger_same c d Finished h; solved = rw h refl; returned = refl; stranger = rw h refl }
is_stranger (Returned j) c h = record { content = stranger_same c j Waiting h; solved = refl; returned = rw h refl; stranger = rw h refl }

-- a withdrawal that is refused
marked_before : (j : ℕ) (es : List EntryValue) (r : WithdrawRefusal) → withdraw_refusal_by (slice_get es j) ≡ Some r → change_at j withdrawn es ≡ es
marked_before zero [] r h = refl
marked_before (suc j) [] r h = refl
marked_before zero (e ∷ es) r h = by_mark e.withdrawn refl h
  where
    with_mark : Bool → EntryValue
    with_mark v = record { ticket = e.ticket; asked = e.asked; phase = e.phase; withdrawn = v }

    by_mark : (w : Bool) → e.withdrawn ≡ w → (if w then Some refusal.Withdrawn else None) ≡ Some r → withdrawn e ∷ es ≡ e ∷ es
    by_mark true p g = ap (λ v. with_mark v ∷ es) (sym p)
    by_mark false p g = absurd (cc)
marked_before (suc j) (e ∷ es) r h = ap (λ l. e ∷ l) (marked_before j es r h)

refused_queue : (m : ℕ) (q : QueueValue) (r : WithdrawRefusal) → withdraw_refusal_of (Some q) m ≡ Some r → withdrawn_at m q ≡ q
refused_queue m q r h = by_tests (nat_lt m q.delivered) refl (nat_le (q.delivered + length q.pending) m) refl h
  where
    past : (d l : ℕ) → nat_le (d + l) m ≡ true → l ≤ m - d
    past d l k = let g : d + l ≤ m = grind (arith, nat_tests, k) in omega (arith, g)

    with_pending : List EntryValue → QueueValue
    with_pending es = record { room = q.room; delivered = q.delivered; pending = es }

    by_tests : (a : Bool) → nat_lt m q.delivered ≡ a → (b : Bool) → nat_le (q.delivered + length q.pending) m ≡ b
        → (if b then Some refusal.NotAccepted
        else (if a then Some refusal.Delivered else withdraw_refusal_by (slice_get q.pending (m - q.delivered)))) ≡ Some r
        → withdrawn_at m q ≡ q
    by_tests true k b l g = rw k refl
    by_tests false k true l g = rw k (ap with_pending (change_past (m - q.delivered) withdrawn q.pending (past q.delivered (length q.pending) l)))
    by_tests false k false l g = rw k (ap with_pending (marked_before (m - q.delivered) q.pending r g))

refused_all : (n m : ℕ) (qs : List QueueValue) (r : WithdrawRefusal)
    → withdraw_refusal_of (slice_get qs n) m ≡ Some r → change_at n (withdrawn_at m) qs ≡ qs
refused_all zero m [] r h = refl
refused_all (suc n) m [] r h = refl
refused_all zero m (q ∷ qs) r h = ap (λ x. x ∷ qs) (refused_queue m q r h)
refused_all (suc n) m (q ∷ qs) r h = ap (λ l. q ∷ l) (refused_all n m qs r h)

pub refused_same : (c : Content) (n m : ℕ) (r : WithdrawRefusal) → withdraw_refusal c n m ≡ Some r → after_withdraw c n m ≡ c
refused_same c n m r h = ap (λ (qs : List QueueValue). record { queues = qs; next = c.next; closed = c.closed }) (refused_all n m c.queues r h)

-- nothing that is ready
pub none_ready : (o : Option EntryValue) → is_some o ≡ false → o ≡ None
none_ready None h = refl
none_ready (Some e) h = absurd (cc)

-- nothing that waits
lower_some : (t : ℕ) (o : Option ℕ) → lower t o ≡ None → ⊥
lower_some t None h = absurd (cc)
lower_some t (Some u) h = absurd (cc)

none_in : (es : List EntryValue) → lowest es ≡ None → count_in waits es ≡ 0
none_in [] h = refl
none_in (e ∷ es) h = by_test (waits e) refl h (none_in es)
  where
    by_test : (b : Bool) → waits e ≡ b → (if b then lower e.ticket (lowest es) else lowest es) ≡ None
        → (lowest es ≡ None → count_in waits es ≡ 0) → count_in waits (e ∷ es) ≡ 0
    by_test true p g rest = absurd (lower_some e.ticket (lowest es) g)
    by_test false p g rest = omega (arith, ap one_if p, rest g)

pub none_waiting : (c : Content) → lowest (entries c) ≡ None → waiting c ≡ 0
none_waiting c h = count_is waits (entries c) ∙ none_in (entries c) h
