-- Replies that a history fixes tell what is true of the records that were asked.
use Rattle.std.proofs.Common.{◌≡◌, ℕ, zero, suc, ◌<◌, sym, refl, subst, None, Some, Option, List, [], ◌∷◌, arith, length}
use Rattle.std.proofs.Common.{slice_get, slice_index_or, inl, inr, Bool, true, false, nat_le, nat_lt, if◌then◌else◌}
use Rattle.mate_jobs.specs.Jobs.{AnswerValue, answer_to}
use Rattle.mate_desk.specs.Content.{Phase, Waiting, Out, Finished}
use Rattle.mate_desk.specs.declared.steps_and_replies.Step.{Step}
use Rattle.mate_desk.specs.declared.steps_and_replies.Reply.{Reply}
use Rattle.mate_desk.specs.declared.steps_and_replies.Step.TheVariants as step
use Rattle.mate_desk.specs.declared.steps_and_replies.Reply.TheVariants as reply
use Rattle.mate_desk.specs.History.{History, past_onto, Claim, accepted, delivered, closed, pending, phase, withdrawn}
use Rattle.mate_desk.specs.Replies.{AreReplies, IsReplyTo, IsSubmitReply, IsOwed, IsFirstOwed, IsCollectReplyBy}
use Rattle.mate_desk.specs.Replies.{submit_reply, take_reply, finish_reply, back_reply, withdraw_reply}

-- If it is an answer, it is the right one.
abbrev IsRight : Reply → Type 0
IsRight (reply.Answer answer) = answer ≡ answer_to answer.asked
IsRight _ = Unit {0}

is_right : (r s : Reply) → r ≡ s → IsRight s → IsRight r
is_right r s e h = subst IsRight (sym e) h

by_if : (b : Bool) (p q : Reply) → IsRight p → IsRight q → IsRight (if b then p else q)
by_if true p q x y = x
by_if false p q x y = y

by_submit : (n room : ℕ) (h : History) (s : ℕ) → IsRight (submit_reply n room h s)
by_submit n room h s = by_if (nat_le n s) _ _ tt (by_if (closed h) _ _ tt (by_if (nat_le room (pending h s)) _ _ tt tt))

by_line : (n room default : ℕ) (h : History) (s : ℕ) (line : List ℕ) (r : Reply) → IsSubmitReply n room default h s line r → IsRight r
by_line n room default h s line r (inl e) = is_right r _ e.2 tt
by_line n room default h s line r (inr e) = elim e.2 [
  | inl q ↦ is_right r _ q.1 tt
  | inr q ↦ is_right r _ q (by_submit n room h s)
]

by_take : (o : Option ℕ) → IsRight (take_reply o)
by_take None = tt
by_take (Some t) = tt

by_finish : (o : Option ℕ) → IsRight (finish_reply o)
by_finish None = tt
by_finish (Some t) = tt

by_back : (o : Option ℕ) → IsRight (back_reply o)
by_back None = tt
by_back (Some t) = tt

by_owed : (default : ℕ) (b : Bool) (p : Phase) (claim : Claim) (r : Reply) → IsOwed default b p claim r → IsRight r
by_owed default true Waiting claim r e = is_right r _ e tt
by_owed default true Out claim r e = is_right r _ e tt
by_owed default true Finished claim r e = is_right r _ e tt
by_owed default false Waiting claim r e = is_right r _ e tt
by_owed default false Out claim r e = is_right r _ e tt
by_owed default false Finished claim r e = is_right r _ e.2 refl

by_first : (default : ℕ) (h : History) (s : ℕ) (o : Option Claim) (r : Reply) → IsFirstOwed default h s o r → IsRight r
by_first default h s None r e = is_right r _ e tt
by_first default h s (Some claim) r e = by_owed default (withdrawn h s (length (delivered h s))) (phase h claim.ticket) claim r e

by_collect : (b : Bool) (default : ℕ) (h : History) (s : ℕ) (r : Reply) → IsCollectReplyBy b default h s r → IsRight r
by_collect false default h s r e = is_right r _ e tt
by_collect true default h s r e = by_first default h s (slice_get (accepted h s) (length (delivered h s))) r e

by_withdraw : (n : ℕ) (h : History) (s j : ℕ) → IsRight (withdraw_reply n h s j)
by_withdraw n h s j = by_if (nat_le n s) _ _ tt (by_if (nat_le (length (accepted h s)) j) _ _ tt
    (by_if (nat_lt j (length (delivered h s))) _ _ tt (by_if (withdrawn h s j) _ _ tt tt)))

by_step : (n room default : ℕ) (h : History) (s : Step) (r : Reply) → IsReplyTo n room default h s r → IsRight r
by_step n room default h (step.Submit k line) r e = by_line n room default h k line.items r e
by_step n room default h step.Take r e = is_right r _ e (by_take _)
by_step n room default h (step.Finish i) r e = is_right r _ e (by_finish _)
by_step n room default h (step.HandBack i) r e = is_right r _ e (by_back _)
by_step n room default h (step.Collect k) r e = by_collect (nat_lt k n) default h k r e
by_step n room default h (step.Withdraw k j) r e = is_right r _ e (by_withdraw n h k j)
by_step n room default h step.Drained r e = is_right r _ e tt
by_step n room default h step.Close r e = is_right r _ e tt

-- What is fixed by all of a history is so by what was before.
replies_before : (n room default : ℕ) (h : History) (ss : List Step) (rs : List Reply) → AreReplies n room default (past_onto h ss rs)
    → AreReplies n room default h
unfolding AreReplies
replies_before n room default h [] rs f = f
replies_before n room default h (s ∷ ss) [] f = f
replies_before n room default h (s ∷ ss) (r ∷ rs) f = (replies_before n room default (record { step = s; reply = r } ∷ h) ss rs f).1

pub right_answers : (n room default : ℕ) (h : History) (ss : List Step) (rs : List Reply) → length rs ≡ length ss
    → AreReplies n room default (past_onto h ss rs) → (answer : AnswerValue) (k : ℕ) → k < length rs
    → slice_index_or rs k (reply.Answer answer) ≡ reply.Answer answer → answer ≡ answer_to answer.asked
unfolding AreReplies
right_answers n room default h ss [] same f answer k low at = absurd (omega (arith, low))
right_answers n room default h [] (r ∷ rs) same f answer k low at = absurd (omega (arith, same))
right_answers n room default h (s ∷ ss) (r ∷ rs) same f answer zero low at =
    subst IsRight at (by_step n room default h s r (replies_before n room default (record { step = s; reply = r } ∷ h) ss rs f).0)
right_answers n room default h (s ∷ ss) (r ∷ rs) same f answer (suc k) low at =
    right_answers n room default (record { step = s; reply = r } ∷ h) ss rs (omega (arith, same)) f answer k (omega (arith, low)) at
