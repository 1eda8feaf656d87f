-- Lines of which the first are passed over.
use Rattle.std.proofs.Common.{◌≡◌, ◌≤◌, ◌<◌, ◌∙◌, ◌+◌, ◌-◌, ℕ, zero, suc, List, [], ◌∷◌, ◌++◌, ap, length, refl, sym, subst}
use Rattle.std.proofs.Common.{arith, drop, take}
use Rattle.text_lines.specs.Lines.{lines_of, texts_of}
use Rattle.text_lines.specs.Replies.{IsReply, IsReplyFrom, IsReplyToFirst, LineReplies, RepliesBehind, behind}
use Rattle.text_lines.specs.Writers.{Follows, Knows}
use Rattle.text_lines.specs.LinesFrom.{IsReplyOn, IsReplyToFirstOn, lines_from, blanked_first}
use Rattle.text_lines.specs.inside.LinesFrom.{FollowsFrom, KnowsFrom, RepliesFrom}

-- ---- a line that is passed over, and one that is not

pub passed_as : (replies : LineReplies) (from number : ℕ) (line text : List ℕ) (n : ℕ) → number < from → text ≡ [] → n ≡ 0
    → RepliesFrom replies from number line text n
passed_as replies from number line text n before nothing none =
    record { passed = λ _. (nothing, none); answered = λ on. absurd (omega (arith, before, on)) }

pub passed_over : (replies : LineReplies) (from number : ℕ) (line : List ℕ) → number < from → RepliesFrom replies from number line [] 0
passed_over replies from number line before = passed_as replies from number line [] 0 before refl refl

pub answered_on : (replies : LineReplies) (from number : ℕ) (line text : List ℕ) (n : ℕ) → from ≤ number → replies number line text n
    → RepliesFrom replies from number line text n
answered_on replies from number line text n on reply = record { passed = λ before. absurd (omega (arith, before, on)); answered = λ _. reply }

-- ---- all lines of an input

-- From that number on all are answered.
all_from : (R : LineReplies) (from number : ℕ) (lines : List (List ℕ)) (text : List ℕ) (n : ℕ) → from ≤ number
    → IsReplyFrom (RepliesFrom R from) number lines text n → IsReplyFrom R number lines text n
all_from R from number [] text n on replies = replies
all_from R from number (line ∷ lines) text n on (here, count, more, others, reply, rest, whole, total) =
    (here, count, more, others, reply.answered on, all_from R from (number + 1) lines more others (omega (arith, on)) rest, whole, total)

-- So many before it are passed over.
behind_passed : (R : LineReplies) (from before number : ℕ) (lines : List (List ℕ)) (text : List ℕ) (n : ℕ) → number + before ≡ from
    → IsReplyFrom (RepliesFrom R from) number lines text n → IsReplyFrom R from (drop before lines) text n
behind_passed R from zero number lines text n is replies =
    let same : number ≡ from = omega (arith, is) in
    subst (λ m. IsReplyFrom R m lines text n) same (all_from R from number lines text n (omega (arith, is)) replies)
behind_passed R from (suc before) number [] text n is replies = replies
behind_passed R from (suc before) number (line ∷ lines) text n is (here, count, more, others, reply, rest, whole, total) =
    let (none, uncounted) = reply.passed (omega (arith, is)) in
    let same : text ≡ more = whole ∙ rw none refl in
    let few : n ≡ others = omega (arith, total, uncounted) in
    rw (same, few) (behind_passed R from before (number + 1) lines more others (omega (arith, is)) rest)

pub reply_on : (R : LineReplies) (from : ℕ) (input text : List ℕ) (n : ℕ) → 1 ≤ from
    → IsReply (RepliesFrom R from) input text n → IsReplyOn R from input text n
unfolding IsReply IsReplyOn
reply_on R from input text n some replies = behind_passed R from (from - 1) 1 (lines_of input) text n (omega (arith, some)) replies

pub reply_to_first_on : (R : LineReplies) (from : ℕ) (input text : List ℕ) → 1 ≤ from
    → IsReplyToFirst (RepliesFrom R from) input text → IsReplyToFirstOn R from input text
unfolding IsReplyToFirst IsReplyToFirstOn
reply_to_first_on R from input text some (count, n, replies) =
    (count, n, behind_passed R from (from - 1) 1 (take count (lines_of input)) text n (omega (arith, some)) replies)

-- ---- lines that are read as empty ones

pub first_none : (n : ℕ) → blanked_first n [] ≡ []
first_none zero = refl
first_none (suc n) = refl

pub first_length : (n : ℕ) (lines : List (List ℕ)) → length (blanked_first n lines) ≡ length lines
first_length zero lines = refl
first_length (suc n) [] = refl
first_length (suc n) (line ∷ lines) = ap suc (first_length n lines)

pub first_pushed : (n : ℕ) (lines : List (List ℕ)) (line : List ℕ) → length lines < n
    → blanked_first n (lines ++ line ∷ []) ≡ blanked_first n lines ++ [] ∷ []
first_pushed zero lines line few = absurd (omega (arith, few))
first_pushed (suc n) [] line few = ap (λ ls. [] ∷ ls) (first_none n)
first_pushed (suc n) (l ∷ lines) line few = ap (λ ls. [] ∷ ls) (first_pushed n lines line (omega (arith, few)))

pub later_pushed : (n : ℕ) (lines : List (List ℕ)) (line : List ℕ) → n ≤ length lines
    → blanked_first n (lines ++ line ∷ []) ≡ blanked_first n lines ++ line ∷ []
later_pushed zero lines line many = refl
later_pushed (suc n) [] line many = absurd (omega (arith, many))
later_pushed (suc n) (l ∷ lines) line many = ap (λ ls. [] ∷ ls) (later_pushed n lines line (omega (arith, many)))

first_taken : (n k : ℕ) (lines : List (List ℕ)) → blanked_first n (take k lines) ≡ take k (blanked_first n lines)
first_taken zero k lines = refl
first_taken (suc n) zero lines = sym (first_none (suc n))
first_taken (suc n) (suc k) [] = refl
first_taken (suc n) (suc k) (line ∷ lines) = ap (λ ls. [] ∷ ls) (first_taken n k lines)

-- ---- what is known of the lines

module _ {M : Type 0} (knows : M → List (List ℕ) → Type 0) (follows : RepliesBehind) (from number : ℕ) (line : List ℕ) where
  -- A line that is passed over is known as a blank one would be.
  pub knows_passed : (memory : M) → number < from
      → ((before : List (List ℕ)) → knows memory before → knows memory (before ++ [] ∷ []))
      → Knows (KnowsFrom knows from) (λ before. FollowsFrom follows from before number) number line memory memory [] 0
  knows_passed memory early passes before many known = (
    passed_over (follows (lines_from from before)) from number line early,
    subst (knows memory) (sym (first_pushed (from - 1) before line (omega (arith, many, early)))) (passes (lines_from from before) known),
  )

  pub follows_on : (old : M) (text : List ℕ) (n : ℕ) → from ≤ number
      → Follows knows (λ before. follows before number) number line old text n
      → Follows (KnowsFrom knows from) (λ before. FollowsFrom follows from before number) number line old text n
  follows_on old text n on says before many known =
      answered_on (follows (lines_from from before)) from number line text n on
      (says (lines_from from before) (ap (λ n. n + 1) (first_length (from - 1) before) ∙ many) known)

  pub knows_on : (old new : M) (text : List ℕ) (n : ℕ) → from ≤ number
      → Knows knows (λ before. follows before number) number line old new text n
      → Knows (KnowsFrom knows from) (λ before. FollowsFrom follows from before number) number line old new text n
  knows_on old new text n on says before many known =
      let (reply, then) = says (lines_from from before) (ap (λ n. n + 1) (first_length (from - 1) before) ∙ many) known in (
        answered_on (follows (lines_from from before)) from number line text n on reply,
        subst (knows new) (sym (later_pushed (from - 1) before line (omega (arith, many, on)))) then,
      )

pub knows_first : {M : Type 0} (knows : M → List (List ℕ) → Type 0) (memory : M) (from : ℕ) → knows memory []
    → KnowsFrom knows from memory []
knows_first knows memory from known = subst (knows memory) (sym (first_none (from - 1))) known

-- ---- and what they are answered

replies_for : (says others : LineReplies) (number : ℕ) (lines : List (List ℕ)) (text : List ℕ) (count : ℕ)
    → ((n : ℕ) (line here : List ℕ) (c : ℕ) → says n line here c → others n line here c)
    → IsReplyFrom says number lines text count → IsReplyFrom others number lines text count
replies_for says others number [] text count each nothing = nothing
replies_for says others number (l ∷ ls) text count each (here, few, more, rest, one, on, is, all) =
    (here, few, more, rest, each number _ here few one, replies_for says others (number + 1) ls more rest each on, is, all)

same_behind : (follows : RepliesBehind) (from : ℕ) (all : List (List ℕ)) (number : ℕ) (line here : List ℕ) (count : ℕ)
    → behind (FollowsFrom follows from) all number line here count → RepliesFrom (behind follows (lines_from from all)) from number line here count
same_behind follows from all number line here count reply = record {
  passed = reply.passed;
  answered = λ on. subst (λ ls. follows ls number line here count) (first_taken (from - 1) (number - 1) all) (reply.answered on);
}

pub followed_on : (follows : RepliesBehind) (from : ℕ) (input text : List ℕ) (n : ℕ) → 1 ≤ from
    → IsReply (behind (FollowsFrom follows from) (texts_of input)) input text n
    → IsReplyOn (behind follows (lines_from from (texts_of input))) from input text n
unfolding IsReply
followed_on follows from input text n some replies =
    let all : List (List ℕ) = texts_of input in
    reply_on (behind follows (lines_from from all)) from input text n some
    (replies_for (behind (FollowsFrom follows from) all) (RepliesFrom (behind follows (lines_from from all)) from) 1 (lines_of input) text n
    (λ number line here count. same_behind follows from all number line here count) replies)

pub followed_to_first : (follows : RepliesBehind) (from : ℕ) (input text : List ℕ) → 1 ≤ from
    → IsReplyToFirst (behind (FollowsFrom follows from) (texts_of input)) input text
    → IsReplyToFirstOn (behind follows (lines_from from (texts_of input))) from input text
unfolding IsReplyToFirst
followed_to_first follows from input text some (many, n, replies) =
    let all : List (List ℕ) = texts_of input in
    reply_to_first_on (behind follows (lines_from from all)) from input text some (
      many,
      n,
      replies_for (behind (FollowsFrom follows from) all) (RepliesFrom (behind follows (lines_from from all)) from) 1 (take many (lines_of input)) text
          n (λ number line here count. same_behind follows from all number line here count) replies,
    )
