-- What jobs are in hand.
use Rattle.std.proofs.Common.{◌≡◌, ◌⊎◌, ℕ, ap, refl, sym, ◌∙◌, arith, List, [], ◌∷◌, ◌++◌, cond, not, Bool, true, false, ◌||◌, ◌==◌, inl, inr}
use Rattle.std.specs.List.{list_any}
use Rattle.std.proofs.lemmas.List.Folds.{list_any-append}
use Rattle.std.proofs.lemmas.Bool.Decides.{nat_tests}
use Rattle.mate_desk.specs.declared.steps_and_replies.Step.{Step}
use Rattle.mate_desk.specs.declared.steps_and_replies.Reply.{Reply}
use Rattle.mate_desk.specs.declared.steps_and_replies.Reply.TheVariants as reply
use Rattle.mate_desk.specs.History.{History, Event, without, hand_by, hand}
use Rattle.mate_desk.specs.HistoryLaws.{puts_down_by, puts_down, HandReads}

-- The ticket is one of these.
abbrev pub has : ℕ → List ℕ → Bool
has t ts = list_any (λ u. u == t) ts

without_it : (t : ℕ) (ts : List ℕ) → has t (without t ts) ≡ false
without_it t [] = refl
without_it t (u ∷ us) = (elim (u == t) as (λ b. (u == t) ≡ b → has t (cond (not b) (u ∷ without t us) (without t us)) ≡ false) [
  | true ↦ λ w. without_it t us
  | false ↦ λ w. rw w (without_it t us)
]) refl

without_other : (t u : ℕ) (ts : List ℕ) → (t == u) ≡ false → has t (without u ts) ≡ has t ts
without_other t u [] n = refl
without_other t u (v ∷ vs) n =
    (elim (v == u) as (λ b. (v == u) ≡ b → has t (cond (not b) (v ∷ without u vs) (without u vs)) ≡ ((v == t) || has t vs)) [
      | true ↦ λ w. (let q : (v == t) ≡ false = grind (arith, nat_tests, w, n) in rw q (without_other t u vs n))
      | false ↦ λ w. ap (λ b. (v == t) || b) (without_other t u vs n)
    ]) refl

one_more : (t u : ℕ) (ts : List ℕ) → has t (ts ++ u ∷ []) ≡ (has t ts || ((u == t) || false))
one_more t u ts = list_any-append (λ v. v == t) ts (u ∷ [])

or_one : (a b : Bool) → (a || (b || false)) ≡ true → (a ≡ true) ⊎ (b ≡ true)
or_one true b e = inl refl
or_one false true e = inr refl
or_one false false e = cc

or_first : (a b : Bool) → a ≡ true → (a || b) ≡ true
or_first a b e = rw e refl

or_last : (a b : Bool) → b ≡ true → (a || (b || false)) ≡ true
or_last true b e = refl
or_last false b e = rw e refl

-- It is in hand after an event where it was taken by it, or was in hand and was not put down.
in_hand : (r : Reply) (t : ℕ) (ts : List ℕ) → has t (hand_by r ts) ≡ true → (r ≡ reply.Job t) ⊎ ((has t ts ≡ true) × (puts_down_by r t ≡ false))
in_hand (reply.Job u) t ts e = elim (or_one (has t ts) (u == t) (sym (one_more t u ts) ∙ e)) [
  | inl p ↦ inr (p, refl)
  | inr p ↦ (let z : u ≡ t = grind (arith, nat_tests, p) in inl (ap (λ k. reply.Job k) z))
]
in_hand (reply.Done u) t ts e = (elim (t == u) as (λ b. (t == u) ≡ b → ((reply.Done u) ≡ reply.Job t) ⊎ ((has t ts ≡ true) × (b ≡ false))) [
  | true ↦ λ w. (let z : t ≡ u = grind (arith, nat_tests, w) in
      let n : has t (without u ts) ≡ false = ap (λ k. has t (without k ts)) (sym z) ∙ without_it t ts in cc)
  | false ↦ λ w. inr (sym (without_other t u ts w) ∙ e, refl)
]) refl
in_hand (reply.Back u) t ts e = (elim (t == u) as (λ b. (t == u) ≡ b → ((reply.Back u) ≡ reply.Job t) ⊎ ((has t ts ≡ true) × (b ≡ false))) [
  | true ↦ λ w. (let z : t ≡ u = grind (arith, nat_tests, w) in
      let n : has t (without u ts) ≡ false = ap (λ k. has t (without k ts)) (sym z) ∙ without_it t ts in cc)
  | false ↦ λ w. inr (sym (without_other t u ts w) ∙ e, refl)
]) refl
in_hand (reply.Ticket u) t ts e = inr (e, refl)
in_hand (reply.Refused x) t ts e = inr (e, refl)
in_hand (reply.BadRecord x) t ts e = inr (e, refl)
in_hand reply.Nothing t ts e = inr (e, refl)
in_hand reply.NoJob t ts e = inr (e, refl)
in_hand (reply.Answer x) t ts e = inr (e, refl)
in_hand (reply.Notice u) t ts e = inr (e, refl)
in_hand reply.Empty t ts e = inr (e, refl)
in_hand reply.NoSuchSubmitter t ts e = inr (e, refl)
in_hand reply.Withdrawn t ts e = inr (e, refl)
in_hand (reply.NotWithdrawn x) t ts e = inr (e, refl)
in_hand (reply.Drained b) t ts e = inr (e, refl)
in_hand reply.Closed t ts e = inr (e, refl)

stays : (r : Reply) (t : ℕ) (ts : List ℕ) → puts_down_by r t ≡ false → has t ts ≡ true → has t (hand_by r ts) ≡ true
stays (reply.Job u) t ts n e = one_more t u ts ∙ or_first (has t ts) _ e
stays (reply.Done u) t ts n e = without_other t u ts n ∙ e
stays (reply.Back u) t ts n e = without_other t u ts n ∙ e
stays (reply.Ticket u) t ts n e = e
stays (reply.Refused x) t ts n e = e
stays (reply.BadRecord x) t ts n e = e
stays reply.Nothing t ts n e = e
stays reply.NoJob t ts n e = e
stays (reply.Answer x) t ts n e = e
stays (reply.Notice u) t ts n e = e
stays reply.Empty t ts n e = e
stays reply.NoSuchSubmitter t ts n e = e
stays reply.Withdrawn t ts n e = e
stays (reply.NotWithdrawn x) t ts n e = e
stays (reply.Drained b) t ts n e = e
stays reply.Closed t ts n e = e

find_job : (h : History) (t : ℕ) → has t (hand h) ≡ true → (later : History) × (s : Step) × (before : History)
    × (h ≡ later ++ record { step = s; reply = reply.Job t } ∷ before) × (list_any (puts_down t) later ≡ false)
find_job [] t e = cc
find_job (x ∷ h) t e = elim (in_hand x.reply t (hand h) e) [
  | inl now ↦ ([], x.step, h, ap (λ q. (let y : Event = record { step = x.step; reply = q } in y) ∷ h) now, refl)
  | inr past ↦ (let a = find_job h t past.0 in (x ∷ a.0, a.1, a.2, ap (λ l. x ∷ l) a.3, rw past.1 a.4))
]

still : (later h : History) (t : ℕ) → list_any (puts_down t) later ≡ false → has t (hand h) ≡ true → has t (hand (later ++ h)) ≡ true
still [] h t n e = e
still (x ∷ later) h t n e = (elim (puts_down_by x.reply t) as (λ b. puts_down_by x.reply t ≡ b
    → (b || list_any (puts_down t) later) ≡ false → has t (hand_by x.reply (hand (later ++ h))) ≡ true) [
      | true ↦ λ w m. cc
      | false ↦ λ w m. stays x.reply t (hand (later ++ h)) w (still later h t m e)
    ]) refl n

same : (n : ℕ) → (n == n) ≡ true
same n = grind (arith, nat_tests)

pub hand_reads : HandReads
hand_reads h t = (
  find_job h t,
  λ a. ap (λ l. has t (hand l)) a.3
      ∙ still a.0 _ t a.4 (one_more t t (hand a.2) ∙ or_last (has t (hand a.2)) _ (same t)),
)
