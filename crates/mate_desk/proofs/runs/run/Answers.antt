use Rattle.std.proofs.Common.{◌≡◌, ◌⊎◌, ◌∙◌, ◌+◌, ◌*◌, ◌<◌, ◌≤◌, ap, sym, subst, inl, inr, refl, List, ◌∷◌, [], arith, length, take}
use Rattle.std.proofs.Common.{get_or, ℕ, length-append, vec_len, true, false, min, nat_le, count_by}
use Rattle.std.proofs.Math.Nat.{min-eq_left, min-eq_right}
use Rattle.std.proofs.lemmas.Bool.Decides.{nat_tests}
use Rattle.std.proofs.lemmas.List.{take_all}
use Rattle.mate_jobs.specs.Jobs.{AnswerValue, Task, answer_to}
use Rattle.mate_desk.specs.Content.{Content}
use Rattle.mate_desk.specs.declared.steps_and_replies.Step.{Step}
use Rattle.mate_desk.specs.History.{past, History}
use Rattle.mate_desk.specs.Replies.{AreReplies}
use Rattle.chess_notation.specs.Records.{problem_of}
use Rattle.mate_desk.specs.Headline.{DeliversInOrder, GivesNoticeOfWithdrawn, DeliversAllOnceDrained, AfterEachPrefix, IsTrueOf}
use Rattle.mate_desk.specs.inside.Mirrors.{MirrorsBy, Mirrors, AtEachMoment}
use Rattle.mate_desk.proofs.Promises.{in_order, notices, all_delivered, none_after_close, first_moment, and_moment, prefix_has}
use Rattle.mate_desk.proofs.Beginnings.{start, past_more, hand_fits}
use Rattle.mate_desk.proofs.RightReplies.{right_answers}
use Rattle.mate_desk.specs.Holding.{nothing}
use Rattle.mate_desk.specs.inside.Stepping.{collects, finishes, count_done, answers}
use Rattle.mate_desk.proofs.Placing.{none_done, place_there, places_left}
use Rattle.mate_desk.proofs.runs.run.Goals as goal

-- Room for the less of two is room for one of them.
held_either : (a b cap : ℕ) → min a b ≤ cap → (a ≤ cap) ⊎ (b ≤ cap)
held_either a b cap h = (elim (nat_le a b) as (λ t. nat_le a b ≡ t → (a ≤ cap) ⊎ (b ≤ cap)) [
  | true ↦ λ w. let y : a ≤ b = grind (arith, nat_tests, w) in let z : min a b ≡ a = min-eq_left y in inl (omega (arith, z, h))
  | false ↦ λ w. let y : b ≤ a = grind (arith, nat_tests, w) in let z : min a b ≡ b = min-eq_right y in inr (omega (arith, z, h))
]) refl

-- Places for the less of two numbers of answers, at a desk where nothing is finished.
first_places : (a b places done : ℕ) → places ≡ min a b → done ≡ 0 → (a ≤ places) ⊎ (done + b ≤ places)
first_places a b places done e none = elim (held_either a b places (omega (arith, e))) [
  | inl p ↦ inl p
  | inr p ↦ inr (omega (arith, p, none))
]

pub loop-step-init : goal.loop-step-init
loop-step-init c =
    let n : ℕ = c.args.submitters in
    let default : ℕ = c.args.default in
    let held = c.in_ok-held.ensures in
    let first : MirrorsBy (λ t. nothing) n c.args.room default [] c.in_ok-held.held.desk c.in_ok-held.held.hand.jobs =
    rw (held.empty, held.no_jobs) (start (λ t. nothing) n c.args.room default) in
    let h : History = [] in
    let jobs : List Task = c.in_ok-held.held.hand.jobs in
    let d : Content = c.in_ok-held.held.desk in
    record {
      mirrors = (λ t. nothing, first);
      in_order = first_moment (DeliversInOrder default) (in_order (λ t. nothing) n c.args.room default h d jobs first);
      notices = first_moment GivesNoticeOfWithdrawn (notices (λ t. nothing) n c.args.room default h d jobs first);
      all = first_moment (DeliversAllOnceDrained n) (all_delivered (λ t. nothing) n c.args.room default h d jobs first);
      told = ap length held.no_replies;
      room = held.for_replies;
      hand = omega (arith, ap length held.no_jobs);
      held = held_either (length c.args.steps.now) (n * c.args.room) c.in_ok-held.held.hand.room (omega (arith, held.for_jobs));
      places = first_places (count_by collects c.args.steps.now) (count_by finishes c.args.steps.now)
          (vec_len c.in_ok-held.held.places) (count_done d) held.for_answers (ap count_done held.empty ∙ none_done n c.args.room 0);
      next = omega (arith, ap (λ (d : Content). d.next) held.empty);
      memo_room = refl;
      memo_within = omega (arith, c.len.ensures.kept, c.len.ensures.within);
    }

pub make-reply-requires-clause-room : goal.make-reply-requires-clause-room
make-reply-requires-clause-room c t low =
    let i = c.loop-step.invariant in
    let h : History = past (take c.loop-step.step-index c.args.steps.now) c.loop-step.replies.items in
    let jobs : List Task = c.loop-step.hand.jobs in
    let fits : length jobs < c.args.submitters * c.args.room =
    hand_fits i.mirrors.0 c.args.submitters c.args.room c.args.default h c.loop-step.desk jobs t i.mirrors.1 low in
    elim i.held [
      | inl p ↦ omega (arith, p, i.hand, c.loop-step-test.true)
      | inr p ↦ omega (arith, p, fits)
    ]

pub make-reply-requires-clause-place : goal.make-reply-requires-clause-place
make-reply-requires-clause-place c asked some =
    place_there c.args.steps.now c.loop-step.step-index c.step-item.result (count_done c.loop-step.desk)
    (vec_len c.loop-step.places) c.loop-step-test.true (sym c.step-item.is) c.loop-step.invariant.places asked some

pub loop-step-preserved : goal.loop-step-preserved
loop-step-preserved c =
    let i = c.loop-step.invariant in
    let n : ℕ = c.args.submitters in
    let default : ℕ = c.args.default in
    let ss : List Step = c.args.steps.now in
    let k : ℕ = c.loop-step.step-index in
    let s : Step = c.step-item.result in
    let h : History = past (take k ss) c.loop-step.replies.items in
    let at : get_or ss k s ≡ s = sym c.step-item.is in
    let e = past_more [] ss c.loop-step.replies.items k s c.make-reply.result i.told c.loop-step-test.true at in
    let m : Mirrors n c.args.room default (record { step = s; reply = c.make-reply.result } ∷ h) c.make-reply.new.desk
    c.make-reply.new.hand.jobs = c.make-reply.ensures.makes n c.args.room h i.mirrors in
    let now : History = record { step = s; reply = c.make-reply.result } ∷ h in
    let d : Content = c.make-reply.new.desk in
    let left : List Task = c.make-reply.new.hand.jobs in
    record {
      mirrors = rw (c.push_reserved.ensures.items, e) m;
      in_order = rw (c.push_reserved.ensures.items, e)
          (and_moment (DeliversInOrder default) _ h (in_order m.0 n c.args.room default now d left m.1) i.in_order);
      notices = rw (c.push_reserved.ensures.items, e)
          (and_moment GivesNoticeOfWithdrawn _ h (notices m.0 n c.args.room default now d left m.1) i.notices);
      all = rw (c.push_reserved.ensures.items, e)
          (and_moment (DeliversAllOnceDrained n) _ h (all_delivered m.0 n c.args.room default now d left m.1) i.all);
      told = ap length c.push_reserved.ensures.items ∙ (length-append c.loop-step.replies.items (c.make-reply.result ∷ []) ∙ ap (λ n. n + 1) i.told);
      room = omega (arith, i.room, c.push_reserved.ensures.capacity);
      hand = omega (arith, i.hand, c.make-reply.ensures.grows);
      held = elim i.held [
        | inl p ↦ inl (omega (arith, p, c.make-reply.ensures.room))
        | inr p ↦ inr (omega (arith, p, c.make-reply.ensures.room))
      ];
      places = places_left ss k s (count_done c.loop-step.desk) (vec_len c.loop-step.places) (count_done d)
          (vec_len c.make-reply.new.places) (answers c.make-reply.result) c.loop-step-test.true at c.make-reply.ensures.left
          c.make-reply.ensures.asked_for c.make-reply.ensures.finished i.places;
      next = omega (arith, i.next, c.make-reply.ensures.few);
      memo_room = c.make-reply.ensures.memo_room ∙ i.memo_room;
      memo_within = c.make-reply.ensures.memo_within;
    }

pub returns-clause-fixed_by_the_past : goal.returns-clause-fixed_by_the_past
returns-clause-fixed_by_the_past c =
    let all : take c.loop-step.step-index c.args.steps.now ≡ c.args.steps.now =
    take_all c.loop-step.step-index c.args.steps.now (omega (arith, c.loop-step-test.false)) in
    subst (λ ss. AreReplies c.args.submitters c.args.room c.args.default (past ss c.loop-step.replies.items)) all
    c.loop-step.invariant.mirrors.1.fixed

pub returns-clause-nothing_after_close : goal.returns-clause-nothing_after_close
returns-clause-nothing_after_close c = none_after_close c.args.submitters c.args.room c.args.default
    (past c.args.steps.now c.loop-step.replies.items) (returns-clause-fixed_by_the_past c)

pub returns-clause-in_order_and_each_once : goal.returns-clause-in_order_and_each_once
unfolding AfterEachPrefix
returns-clause-in_order_and_each_once c =
    let all : take c.loop-step.step-index c.args.steps.now ≡ c.args.steps.now =
    take_all c.loop-step.step-index c.args.steps.now (omega (arith, c.loop-step-test.false)) in
    prefix_has (DeliversInOrder c.args.default) [] c.args.steps.now c.loop-step.replies.items (subst (λ ss.
    AtEachMoment (DeliversInOrder c.args.default) (past ss c.loop-step.replies.items)) all c.loop-step.invariant.in_order)

pub returns-clause-notices_for_the_withdrawn : goal.returns-clause-notices_for_the_withdrawn
unfolding AfterEachPrefix
returns-clause-notices_for_the_withdrawn c =
    let all : take c.loop-step.step-index c.args.steps.now ≡ c.args.steps.now =
    take_all c.loop-step.step-index c.args.steps.now (omega (arith, c.loop-step-test.false)) in
    prefix_has GivesNoticeOfWithdrawn [] c.args.steps.now c.loop-step.replies.items
    (subst (λ ss. AtEachMoment GivesNoticeOfWithdrawn (past ss c.loop-step.replies.items)) all c.loop-step.invariant.notices)

pub returns-clause-all_once_drained : goal.returns-clause-all_once_drained
unfolding AfterEachPrefix
returns-clause-all_once_drained c =
    let all : take c.loop-step.step-index c.args.steps.now ≡ c.args.steps.now =
    take_all c.loop-step.step-index c.args.steps.now (omega (arith, c.loop-step-test.false)) in
    prefix_has (DeliversAllOnceDrained c.args.submitters) [] c.args.steps.now c.loop-step.replies.items (subst (λ ss. AtEachMoment
    (DeliversAllOnceDrained c.args.submitters) (past ss c.loop-step.replies.items)) all c.loop-step.invariant.all)

pub returns-clause-true_answers : goal.returns-clause-true_answers
unfolding IsTrueOf
returns-clause-true_answers c answer (k, low, at) =
    let same : length c.loop-step.replies.items ≡ length c.args.steps.now =
    omega (arith, c.loop-step.invariant.told, c.loop-step-test.false, c.loop-step.auto.step-index-end) in
    let told : answer ≡ answer_to answer.asked = right_answers c.args.submitters c.args.room c.args.default [] c.args.steps.now
    c.loop-step.replies.items same (returns-clause-fixed_by_the_past c) answer k low at in
    subst (λ outcome. IsTrueOf answer.asked outcome) (sym (ap (λ (a : AnswerValue). a.outcome) told)) (c.truth_reads.ensures (problem_of answer.asked))
