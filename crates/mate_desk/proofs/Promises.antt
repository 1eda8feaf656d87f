-- A desk that is what its history says keeps what the headline promises.
use Rattle.std.proofs.Common.{◌≡◌, ◌∙◌, ◌+◌, ◌<◌, ◌≤◌, ℕ, zero, suc, sym, ap, refl, Some, None, Option, List, [], ◌∷◌, arith}
use Rattle.std.proofs.Common.{length, take, slice_get, Bool, true, false, ◌==◌, inl, inr, nat_le, nat_lt, if◌then◌else◌}
use Rattle.std.specs.List.{list_all}
use Rattle.std.proofs.lemmas.Bool.Decides.{nat_tests}
use Rattle.chess_notation.specs.Records.{RecordValue}
use Rattle.mate_jobs.specs.Jobs.{Task}
use Rattle.mate_desk.specs.Content.{Content, Phase, Waiting, Out, Finished}
use Rattle.mate_desk.specs.declared.refusals.SubmitRefusal.TheVariants as refused
use Rattle.mate_desk.specs.declared.steps_and_replies.Step.{Step}
use Rattle.mate_desk.specs.declared.steps_and_replies.Reply.{Reply}
use Rattle.mate_desk.specs.declared.steps_and_replies.Step.TheVariants as step
use Rattle.mate_desk.specs.declared.steps_and_replies.Reply.TheVariants as reply
use Rattle.mate_desk.specs.History.{History, Event, past_onto, Claim, Parcel, accepted, delivered}
use Rattle.mate_desk.specs.History.{closed, pending, phase, withdrawn, hand, is_ticket, is_notice}
use Rattle.mate_desk.specs.Replies.{from, AreReplies, IsReplyTo, IsSubmitReply, IsOwed, IsFirstOwed, IsCollectReplyBy}
use Rattle.mate_desk.specs.Replies.{submit_reply, take_reply, finish_reply, back_reply, withdraw_reply}
use Rattle.mate_desk.specs.Headline.{DeliversInOrder, GivesNoticeOfWithdrawn, DeliversAllOnceDrained, AcceptsNoneAfterClose}
use Rattle.mate_desk.specs.inside.Mirrors.{MirrorsBy, AreNoticesMarked, AtEachMoment}
use Rattle.mate_desk.proofs.PhaseChanges.{both_of}

pub in_order : (asks : ℕ → RecordValue) (n room default : ℕ) (h : History) (c : Content) (jobs : List Task)
    → MirrorsBy asks n room default h c jobs → DeliversInOrder default h
unfolding DeliversInOrder
in_order asks n room default h c jobs m s = (m.sound s).in_order

marked_at : (marks : ℕ → Bool) (k : ℕ) (parcels : List Parcel) (j : ℕ) (parcel : Parcel) → AreNoticesMarked marks k parcels
    → slice_get parcels j ≡ Some parcel → is_notice parcel ≡ marks (k + j)
marked_at marks k [] j parcel a e = cc
marked_at marks k (p ∷ ps) zero parcel a e = let q : p ≡ parcel = cc in let z : k ≡ k + 0 = omega arith in ap is_notice (sym q) ∙ (a.0 ∙ ap marks z)
marked_at marks k (p ∷ ps) (suc j) parcel a e = let z : k + 1 + j ≡ k + suc j = omega arith in marked_at marks (k + 1) ps j parcel a.1 e ∙ ap marks z

pub notices : (asks : ℕ → RecordValue) (n room default : ℕ) (h : History) (c : Content) (jobs : List Task)
    → MirrorsBy asks n room default h c jobs → GivesNoticeOfWithdrawn h
unfolding GivesNoticeOfWithdrawn
notices asks n room default h c jobs m s j parcel e = let z : 0 + j ≡ j = omega arith in
    marked_at (withdrawn h s) 0 (delivered h s) j parcel (m.sound s).notices e ∙ ap (withdrawn h s) z

all_zero : (f : ℕ → ℕ) (k n s : ℕ) → list_all (λ i. f i == 0) (from k n) ≡ true → s < n → f (k + s) ≡ 0
all_zero f k zero s e h = absurd (omega arith)
all_zero f k (suc n) zero e h = let a = both_of (f k == 0) (list_all (λ i. f i == 0) (from (k + 1) n)) e in let q : k + 0 ≡ k =
    omega arith in let z : f k ≡ 0 = grind (arith, nat_tests, a.0) in ap f q ∙ z
all_zero f k (suc n) (suc s) e h = let a = both_of (f k == 0) _ e in let q : k + suc s ≡ k + 1 + s = omega arith in
    ap f q ∙ all_zero f (k + 1) n s a.1 (omega arith)

pub all_delivered : (asks : ℕ → RecordValue) (n room default : ℕ) (h : History) (c : Content) (jobs : List Task)
    → MirrorsBy asks n room default h c jobs → DeliversAllOnceDrained n h
unfolding DeliversAllOnceDrained
all_delivered asks n room default h c jobs m d s = (elim (nat_lt s n) as (λ b. nat_lt s n ≡ b → length (delivered h s) ≡ length (accepted h s)) [
  | true ↦ λ w.
      let a = both_of (list_all (λ s. pending h s == 0) (from 0 n)) (length (hand h) == 0) d in
      let inside : s < n = grind (arith, nat_tests, w) in
      let z = all_zero (pending h) 0 n s a.0 inside in
      let f = (m.sound s).few in
      let q : 0 + s ≡ s = omega arith in
      let y : pending h s ≡ 0 = ap (pending h) (sym q) ∙ z in
      omega (arith, y, f)
  | false ↦ λ w.
      let past : n ≤ s = grind (arith, nat_tests, w) in
      let f = (m.sound s).few in
      omega (arith, f, ap length (m.nobody s past))
]) refl

by_if : (b : Bool) (p q : Reply) → is_ticket p ≡ false → is_ticket q ≡ false → is_ticket (if b then p else q) ≡ false
by_if true p q x y = x
by_if false p q x y = y

by_submit : (n room : ℕ) (h : History) (k : ℕ) → closed h ≡ true → is_ticket (submit_reply n room h k) ≡ false
by_submit n room h k cl = by_if (nat_le n k) (reply.Refused refused.NoSuchSubmitter) _ refl (rw cl refl)

by_line : (n room default : ℕ) (h : History) (k : ℕ) (line : List ℕ) (r : Reply) → closed h ≡ true
    → IsSubmitReply n room default h k line r → is_ticket r ≡ false
by_line n room default h k line r cl (inl e) = ap is_ticket e.2
by_line n room default h k line r cl (inr e) = elim e.2 [
  | inl q ↦ ap is_ticket q.1
  | inr q ↦ ap is_ticket q ∙ by_submit n room h k cl
]

by_take : (o : Option ℕ) → is_ticket (take_reply o) ≡ false
by_take None = refl
by_take (Some t) = refl

by_finish : (o : Option ℕ) → is_ticket (finish_reply o) ≡ false
by_finish None = refl
by_finish (Some t) = refl

by_back : (o : Option ℕ) → is_ticket (back_reply o) ≡ false
by_back None = refl
by_back (Some t) = refl

by_owed : (default : ℕ) (b : Bool) (p : Phase) (claim : Claim) (r : Reply) → IsOwed default b p claim r → is_ticket r ≡ false
by_owed default true Waiting claim r e = ap is_ticket e
by_owed default true Out claim r e = ap is_ticket e
by_owed default true Finished claim r e = ap is_ticket e
by_owed default false Waiting claim r e = ap is_ticket e
by_owed default false Out claim r e = ap is_ticket e
by_owed default false Finished claim r e = ap is_ticket e.2

by_first : (default : ℕ) (h : History) (s : ℕ) (o : Option Claim) (r : Reply) → IsFirstOwed default h s o r → is_ticket r ≡ false
by_first default h s None r e = ap is_ticket e
by_first default h s (Some claim) r e = by_owed default (withdrawn h s (length (delivered h s))) (phase h claim.ticket) claim r e

by_collect : (b : Bool) (default : ℕ) (h : History) (s : ℕ) (r : Reply) → IsCollectReplyBy b default h s r → is_ticket r ≡ false
by_collect false default h s r e = ap is_ticket e
by_collect true default h s r e = by_first default h s (slice_get (accepted h s) (length (delivered h s))) r e

by_withdraw : (n : ℕ) (h : History) (s j : ℕ) → is_ticket (withdraw_reply n h s j) ≡ false
by_withdraw n h s j = by_if (nat_le n s) _ _ refl (by_if (nat_le (length (accepted h s)) j) _ _ refl
    (by_if (nat_lt j (length (delivered h s))) _ _ refl (by_if (withdrawn h s j) _ _ refl refl)))

by_step : (n room default : ℕ) (h : History) (s : Step) (r : Reply) → closed h ≡ true → IsReplyTo n room default h s r → is_ticket r ≡ false
by_step n room default h (step.Submit k line) r cl e = by_line n room default h k line.items r cl e
by_step n room default h step.Take r cl e = ap is_ticket e ∙ by_take _
by_step n room default h (step.Finish i) r cl e = ap is_ticket e ∙ by_finish _
by_step n room default h (step.HandBack i) r cl e = ap is_ticket e ∙ by_back _
by_step n room default h (step.Collect k) r cl e = by_collect (nat_lt k n) default h k r e
by_step n room default h (step.Withdraw k j) r cl e = ap is_ticket e ∙ by_withdraw n h k j
by_step n room default h step.Drained r cl e = ap is_ticket e
by_step n room default h step.Close r cl e = ap is_ticket e

pub none_after_close : (n room default : ℕ) (h : History) → AreReplies n room default h → AcceptsNoneAfterClose h
unfolding AreReplies AcceptsNoneAfterClose
none_after_close n room default [] f = tt
none_after_close n room default (e ∷ h) f = ((λ cl. by_step n room default h e.step e.reply cl f.0), none_after_close n room default h f.1)

pub first_moment : (P : History → Type 0) → P [] → AtEachMoment P []
unfolding AtEachMoment
first_moment P p = p

pub and_moment : (P : History → Type 0) (e : Event) (h : History) → P (e ∷ h) → AtEachMoment P h → AtEachMoment P (e ∷ h)
unfolding AtEachMoment
and_moment P e h p all = (p, all)

now_has : (P : History → Type 0) (h : History) → AtEachMoment P h → P h
unfolding AtEachMoment
now_has P [] all = all
now_has P (e ∷ h) all = all.0

before_has : (P : History → Type 0) (h : History) (ss : List Step) (rs : List Reply) → AtEachMoment P (past_onto h ss rs) → AtEachMoment P h
unfolding AtEachMoment
before_has P h [] rs all = all
before_has P h (s ∷ ss) [] all = all
before_has P h (s ∷ ss) (r ∷ rs) all = (before_has P (record { step = s; reply = r } ∷ h) ss rs all).1

-- What holds at each moment of a run holds after each prefix of it.
pub prefix_has : (P : History → Type 0) (h : History) (ss : List Step) (rs : List Reply) → AtEachMoment P (past_onto h ss rs)
    → (k : ℕ) → P (past_onto h (take k ss) (take k rs))
prefix_has P h ss rs all zero = now_has P h (before_has P h ss rs all)
prefix_has P h [] rs all (suc k) = now_has P h all
prefix_has P h (s ∷ ss) [] all (suc k) = now_has P h all
prefix_has P h (s ∷ ss) (r ∷ rs) all (suc k) = prefix_has P (record { step = s; reply = r } ∷ h) ss rs all k
