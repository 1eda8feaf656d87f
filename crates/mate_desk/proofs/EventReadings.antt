-- Whether something happened in a history, and what was said last.
use Rattle.std.proofs.Common.{◌≡◌, ◌≢◌, ◌⊎◌, ◌+◌, ℕ, ap, refl, sym, ◌∙◌, arith, [], ◌∷◌, ◌++◌, cond}
use Rattle.std.proofs.Common.{Bool, true, false, ◌||◌, ◌&&◌, if◌then◌else◌, ◌==◌, inl, inr}
use Rattle.std.specs.List.{list_any}
use Rattle.std.proofs.lemmas.Bool.Decides.{nat_tests}
use Rattle.std.proofs.lemmas.List.Recursion.{is_count_by}
use Rattle.mate_desk.specs.Content.{Phase, Waiting, Out, Finished}
use Rattle.mate_desk.specs.declared.steps_and_replies.Step.{Step}
use Rattle.mate_desk.specs.declared.steps_and_replies.Step.TheVariants as step
use Rattle.mate_desk.specs.declared.steps_and_replies.Reply.{Reply}
use Rattle.mate_desk.specs.declared.steps_and_replies.Reply.TheVariants as reply
use Rattle.mate_desk.specs.History.{History, Event, withdraws, withdrawn, closes, closed, phase_by, phase, is_ticket, count_accepted}
use Rattle.mate_desk.specs.HistoryLaws.{WasMade, WithdrawnReads, ClosedReads, CountReads, says_by, says_phase, NoneSays, IsLast, PhaseReads}

same : (n : ℕ) → (n == n) ≡ true
same n = grind (arith, nat_tests)

both : (a b : Bool) → (a && b) ≡ true → (a ≡ true) × (b ≡ true)
both true b e = (refl, e)
both false b e = cc

withdraws_one : (st : Step) (r : Reply) (s j : ℕ) → withdraws st r s j ≡ true
    → (let e : Event = record { step = st; reply = r } in e) ≡ record { step = step.Withdraw s j; reply = reply.Withdrawn }
withdraws_one (step.Withdraw n k) reply.Withdrawn s j e =
    let h = both (s == n) (j == k) e in
    let p : n ≡ s = grind (arith, nat_tests, h.0) in
    let q : k ≡ j = grind (arith, nat_tests, h.1) in
    ap (λ n. record { step = step.Withdraw n k; reply = reply.Withdrawn }) p
    ∙ ap (λ k. record { step = step.Withdraw s k; reply = reply.Withdrawn }) q
withdraws_one (step.Withdraw n k) (reply.Ticket t) s j e = cc
withdraws_one (step.Withdraw n k) (reply.Refused x) s j e = cc
withdraws_one (step.Withdraw n k) (reply.BadRecord x) s j e = cc
withdraws_one (step.Withdraw n k) (reply.Job t) s j e = cc
withdraws_one (step.Withdraw n k) reply.Nothing s j e = cc
withdraws_one (step.Withdraw n k) (reply.Done t) s j e = cc
withdraws_one (step.Withdraw n k) reply.NoJob s j e = cc
withdraws_one (step.Withdraw n k) (reply.Back t) s j e = cc
withdraws_one (step.Withdraw n k) (reply.Answer x) s j e = cc
withdraws_one (step.Withdraw n k) (reply.Notice t) s j e = cc
withdraws_one (step.Withdraw n k) reply.Empty s j e = cc
withdraws_one (step.Withdraw n k) reply.NoSuchSubmitter s j e = cc
withdraws_one (step.Withdraw n k) (reply.NotWithdrawn x) s j e = cc
withdraws_one (step.Withdraw n k) (reply.Drained b) s j e = cc
withdraws_one (step.Withdraw n k) reply.Closed s j e = cc
withdraws_one (step.Submit n text) r s j e = cc
withdraws_one step.Take r s j e = cc
withdraws_one (step.Finish i) r s j e = cc
withdraws_one (step.HandBack i) r s j e = cc
withdraws_one (step.Collect n) r s j e = cc
withdraws_one step.Drained r s j e = cc
withdraws_one step.Close r s j e = cc

or_one : (a b : Bool) → (a || b) ≡ true → (a ≡ true) ⊎ (b ≡ true)
or_one true b e = inl refl
or_one false b e = inr e

or_last : (a b : Bool) → b ≡ true → (a || b) ≡ true
or_last true b e = refl
or_last false b e = e

find_withdrawn : (h : History) (s j : ℕ) → withdrawn h s j ≡ true → (before : History) × WasMade h (step.Withdraw s j) reply.Withdrawn before
find_withdrawn [] s j e = cc
find_withdrawn (x ∷ h) s j e = elim (or_one (withdraws x.step x.reply s j) (withdrawn h s j) e) [
  | inl now ↦ (h, ([], ap (λ y. y ∷ h) (withdraws_one x.step x.reply s j now)))
  | inr past ↦ (let a = find_withdrawn h s j past in (a.0, (x ∷ a.1.0, ap (λ l. x ∷ l) a.1.1)))
]

read_withdrawn : (later before : History) (s j : ℕ)
    → withdrawn (later ++ record { step = step.Withdraw s j; reply = reply.Withdrawn } ∷ before) s j ≡ true
read_withdrawn [] before s j = rw (same s, same j) refl
read_withdrawn (x ∷ later) before s j = or_last (withdraws x.step x.reply s j) _ (read_withdrawn later before s j)

pub withdrawn_reads : WithdrawnReads
withdrawn_reads h s j = (find_withdrawn h s j, λ a. ap (λ l. withdrawn l s j) a.1.1 ∙ read_withdrawn a.1.0 a.0 s j)

closes_one : (st : Step) (r : Reply) → closes st ≡ true
    → (let e : Event = record { step = st; reply = r } in e) ≡ record { step = step.Close; reply = r }
closes_one step.Close r e = refl
closes_one (step.Submit n text) r e = cc
closes_one step.Take r e = cc
closes_one (step.Finish i) r e = cc
closes_one (step.HandBack i) r e = cc
closes_one (step.Collect n) r e = cc
closes_one (step.Withdraw n j) r e = cc
closes_one step.Drained r e = cc

find_closed : (h : History) → closed h ≡ true → (before : History) × (r : Reply) × WasMade h step.Close r before
find_closed [] e = cc
find_closed (x ∷ h) e = elim (or_one (closes x.step) (closed h) e) [
  | inl now ↦ (h, x.reply, ([], ap (λ y. y ∷ h) (closes_one x.step x.reply now)))
  | inr past ↦ (let a = find_closed h past in (a.0, a.1, (x ∷ a.2.0, ap (λ l. x ∷ l) a.2.1)))
]

read_closed : (later before : History) (r : Reply) → closed (later ++ record { step = step.Close; reply = r } ∷ before) ≡ true
read_closed [] before r = refl
read_closed (x ∷ later) before r = or_last (closes x.step) _ (read_closed later before r)

pub closed_reads : ClosedReads
closed_reads h = (find_closed h, λ a. ap closed a.2.1 ∙ read_closed a.2.0 a.0 a.1)

count_more : (e : Event) (h : History) → count_accepted (e ∷ h) ≡ cond (is_ticket e.reply) (1 + count_accepted h) (count_accepted h)
count_more e h = elim (is_ticket e.reply) as (λ b. (if b then count_accepted h + 1 else count_accepted h)
    ≡ cond b (1 + count_accepted h) (count_accepted h)) [
      | true ↦ omega arith
      | false ↦ refl
    ]

pub count_reads : CountReads
count_reads h = is_count_by count_accepted (λ e. is_ticket e.reply) refl count_more h

quiet : (r : Reply) (t : ℕ) (p : Phase) → says_by r t ≡ false → phase_by r t p ≡ p
quiet (reply.Ticket u) t p w = rw w refl
quiet (reply.Back u) t p w = rw w refl
quiet (reply.Job u) t p w = rw w refl
quiet (reply.Done u) t p w = rw w refl
quiet (reply.Refused x) t p w = refl
quiet (reply.BadRecord x) t p w = refl
quiet reply.Nothing t p w = refl
quiet reply.NoJob t p w = refl
quiet (reply.Answer x) t p w = refl
quiet (reply.Notice u) t p w = refl
quiet reply.Empty t p w = refl
quiet reply.NoSuchSubmitter t p w = refl
quiet reply.Withdrawn t p w = refl
quiet (reply.NotWithdrawn x) t p w = refl
quiet (reply.Drained b) t p w = refl
quiet reply.Closed t p w = refl

-- The reply says that phase of the ticket by being this one.
abbrev pub SaysBy : ℕ → Phase → Reply → Type 0
SaysBy t p r = (x : Reply) (q : Phase) → says_by x t ≡ true → phase_by x t q ≡ p → x ≡ r

job_says : (t : ℕ) → SaysBy t Out (reply.Job t)
job_says t (reply.Job u) q w e = let z : u ≡ t = grind (arith, nat_tests, w) in ap (λ k. reply.Job k) z
job_says t (reply.Ticket u) q w e = (let z = rw w at e in cc)
job_says t (reply.Back u) q w e = (let z = rw w at e in cc)
job_says t (reply.Done u) q w e = (let z = rw w at e in cc)
job_says t (reply.Refused x) q w e = cc
job_says t (reply.BadRecord x) q w e = cc
job_says t reply.Nothing q w e = cc
job_says t reply.NoJob q w e = cc
job_says t (reply.Answer x) q w e = cc
job_says t (reply.Notice u) q w e = cc
job_says t reply.Empty q w e = cc
job_says t reply.NoSuchSubmitter q w e = cc
job_says t reply.Withdrawn q w e = cc
job_says t (reply.NotWithdrawn x) q w e = cc
job_says t (reply.Drained b) q w e = cc
job_says t reply.Closed q w e = cc

done_says : (t : ℕ) → SaysBy t Finished (reply.Done t)
done_says t (reply.Done u) q w e = let z : u ≡ t = grind (arith, nat_tests, w) in ap (λ k. reply.Done k) z
done_says t (reply.Ticket u) q w e = (let z = rw w at e in cc)
done_says t (reply.Back u) q w e = (let z = rw w at e in cc)
done_says t (reply.Job u) q w e = (let z = rw w at e in cc)
done_says t (reply.Refused x) q w e = cc
done_says t (reply.BadRecord x) q w e = cc
done_says t reply.Nothing q w e = cc
done_says t reply.NoJob q w e = cc
done_says t (reply.Answer x) q w e = cc
done_says t (reply.Notice u) q w e = cc
done_says t reply.Empty q w e = cc
done_says t reply.NoSuchSubmitter q w e = cc
done_says t reply.Withdrawn q w e = cc
done_says t (reply.NotWithdrawn x) q w e = cc
done_says t (reply.Drained b) q w e = cc
done_says t reply.Closed q w e = cc

find_last : (t : ℕ) (p : Phase) (r : Reply) → SaysBy t p r → Waiting ≢ p → (h : History) → phase h t ≡ p → IsLast t r h
find_last t p r says first [] e = absurd (first e)
find_last t p r says first (x ∷ h) e = (elim (says_by x.reply t) as (λ b. says_by x.reply t ≡ b → IsLast t r (x ∷ h)) [
  | true ↦ λ w. ([], x.step, h, ap (λ q. (let y : Event = record { step = x.step; reply = q } in y) ∷ h) (says x.reply (phase h t) w e), refl)
  | false ↦ λ w. (let a = find_last t p r says first h (sym (quiet x.reply t (phase h t) w) ∙ e) in
      (x ∷ a.0, a.1, a.2, ap (λ l. x ∷ l) a.3, rw w a.4))
]) refl

phase_after : (later h : History) (t : ℕ) → NoneSays t later → phase (later ++ h) t ≡ phase h t
phase_after [] h t none = refl
phase_after (x ∷ later) h t none = (elim (says_by x.reply t) as (λ b. says_by x.reply t ≡ b
    → (b || list_any (says_phase t) later) ≡ false → phase ((x ∷ later) ++ h) t ≡ phase h t) [
      | true ↦ λ w n. cc
      | false ↦ λ w n. quiet x.reply t (phase (later ++ h) t) w ∙ phase_after later h t n
    ]) refl none

pub phase_reads : PhaseReads
phase_reads h t = (
  (find_last t Out (reply.Job t) (job_says t) (λ e. cc) h, λ a. ap (λ l. phase l t) a.3 ∙ (phase_after a.0 _ t a.4 ∙ (rw (same t) refl))),
  (find_last t Finished (reply.Done t) (done_says t) (λ e. cc) h, λ a. ap (λ l. phase l t) a.3 ∙ (phase_after a.0 _ t a.4 ∙ (rw (same t) refl))),
)
