-- What a submitter has handled, one step more.
use Rattle.std.proofs.Common.{◌≡◌, ℕ, ◌+◌, ◌≤◌, List, [], ◌∷◌, ◌++◌, length, refl, ap, sym}
use Rattle.std.proofs.Common.{◌∙◌, subst, arith, append_assoc, append-nil, length-append}
use Rattle.chess_notation.specs.Records.{RecordValue}
use Rattle.text_lines.specs.Lines.{without_cr}
use Rattle.mate_answers.specs.InputReplies.{answer_line, IsLineReply, IsReplyFrom, RepliesGoOn}
use Rattle.desk_room.specs.inside.Submitters.{woven, Progress}

woven_snoc : (rs : List RecordValue) (ts : List (List ℕ)) (r : RecordValue) → length ts ≡ length rs
    → woven (rs ++ r ∷ []) (ts ++ [] ∷ []) ≡ woven rs ts ++ answer_line r
woven_snoc [] [] r is = append-nil (answer_line r ++ []) ∙ append-nil (answer_line r)
woven_snoc [] (t ∷ ts) r is = absurd (omega (arith, is))
woven_snoc (q ∷ qs) [] r is = absurd (omega (arith, is))
woven_snoc (q ∷ qs) (t ∷ ts) r is =
    ap (λ l. (answer_line q ++ t) ++ l) (woven_snoc qs ts r (omega (arith, is)))
    ∙ sym (append_assoc (answer_line q ++ t) (woven qs ts) (answer_line r))

woven_behind : (rs : List RecordValue) (ts : List (List ℕ)) (t more : List ℕ) → length rs ≡ length ts + 1
    → woven rs (ts ++ (t ++ more) ∷ []) ≡ woven rs (ts ++ t ∷ []) ++ more
woven_behind [] ts t more is = absurd (omega (arith, is))
woven_behind (r ∷ []) [] t more is =
    append-nil (answer_line r ++ (t ++ more)) ∙ sym (append_assoc (answer_line r) t more)
    ∙ ap (λ l. l ++ more) (sym (append-nil (answer_line r ++ t)))
woven_behind (r ∷ q ∷ rs) [] t more is = absurd (omega (arith, is))
woven_behind (r ∷ rs) (s ∷ ts) t more is =
    ap (λ l. (answer_line r ++ s) ++ l) (woven_behind rs ts t more (omega (arith, is)))
    ∙ sym (append_assoc (answer_line r ++ s) (woven rs (ts ++ t ∷ [])) more)

woven_none : (rs : List RecordValue) → woven rs [] ≡ []
woven_none [] = refl
woven_none (r ∷ rs) = refl

-- What follows a first part ends as the whole does.
pub record EndsSo (sent got rest : List RecordValue) (r : RecordValue) : Type 0 where
  pub before : List RecordValue
  pub is : rest ≡ before ++ r ∷ []
  pub follows : sent ≡ got ++ before

ends_so : (sent got rest : List RecordValue) (r : RecordValue) → length got ≤ length sent → sent ++ r ∷ [] ≡ got ++ rest → EndsSo sent got rest r
ends_so sent [] rest r few is = record { before = sent; is = sym is; follows = refl }
ends_so [] (g ∷ gs) rest r few is = absurd (omega (arith, few))
ends_so (s ∷ ss) (g ∷ gs) rest r few is =
    let more = ends_so ss gs rest r (omega (arith, few)) (cc (is)) in
    let first : s ≡ g = cc (is) in
    record { before = more.before; is = more.is; follows = ap (λ x. x ∷ ss) first ∙ ap (λ l. g ∷ l) more.follows }

pub progress_answer : (default refused : ℕ) (lines : List (List ℕ)) (sent got : List RecordValue)
    (a : RecordValue) (text b : List ℕ) (bs : List (List ℕ))
    → Progress default lines sent got text (b ∷ bs) refused → Progress default lines sent (got ++ a ∷ []) (text ++ (answer_line a ++ b)) bs refused
progress_answer default refused lines sent got a text b bs old = record {
  awaited = omega (arith, old.awaited, length-append got (a ∷ []));
  replied = λ rest is.
      subst (λ t. IsReplyFrom default 1 lines t refused) (sym (append_assoc text (answer_line a ++ b) (woven rest bs)))
      (old.replied (a ∷ rest) (is ∙ append_assoc got (a ∷ []) rest));
}

pub progress_record : RepliesGoOn → (default refused : ℕ) (lines : List (List ℕ)) (line : List ℕ) (sent got : List RecordValue)
    (r : RecordValue) (text : List ℕ) (pending : List (List ℕ))
    → IsLineReply default (length lines + 1) (without_cr line) (answer_line r) 0
    → Progress default lines sent got text pending refused
    → Progress default (lines ++ line ∷ []) (sent ++ r ∷ []) got text (pending ++ [] ∷ []) refused
progress_record go_on default refused lines line sent got r text pending reply old = record {
  awaited = omega (arith, old.awaited, length-append pending ([] ∷ []), length-append sent (r ∷ []));
  replied = λ rest is.
      let ends = ends_so sent got rest r (omega (arith, old.awaited)) is in
      let few : length pending ≡ length ends.before = omega (arith, old.awaited, ap length ends.follows, length-append got ends.before) in
      let next : IsReplyFrom default 1 (lines ++ line ∷ []) ((text ++ woven ends.before pending) ++ answer_line r) (refused + 0) =
      go_on default (length lines + 1) lines line (text ++ woven ends.before pending) (answer_line r) refused 0 refl
      (old.replied ends.before ends.follows) reply in
      let is_text : (text ++ woven ends.before pending) ++ answer_line r ≡ text ++ woven rest (pending ++ [] ∷ []) =
      append_assoc text (woven ends.before pending) (answer_line r) ∙ ap (λ l. text ++ l)
      (sym (woven_snoc ends.before pending r few) ∙ ap (λ l. woven l (pending ++ [] ∷ [])) (sym ends.is)) in
      subst (λ t. IsReplyFrom default 1 (lines ++ line ∷ []) t refused) is_text (subst (λ n. IsReplyFrom default 1
      (lines ++ line ∷ []) ((text ++ woven ends.before pending) ++ answer_line r) n) (omega arith) next);
}

pub progress_refusal : RepliesGoOn → (default refused : ℕ) (lines : List (List ℕ)) (line here : List ℕ) (sent got : List RecordValue) (text : List ℕ)
    → IsLineReply default (length lines + 1) (without_cr line) here 1
    → Progress default lines sent got text [] refused → Progress default (lines ++ line ∷ []) sent got (text ++ here) [] (refused + 1)
progress_refusal go_on default refused lines line here sent got text reply old = record {
  awaited = old.awaited;
  replied = λ rest is.
      let before : IsReplyFrom default 1 lines text refused =
      subst (λ t. IsReplyFrom default 1 lines t refused) (ap (λ l. text ++ l) (woven_none rest) ∙ append-nil text) (old.replied rest is) in
      subst (λ t. IsReplyFrom default 1 (lines ++ line ∷ []) t (refused + 1))
      (sym (ap (λ l. (text ++ here) ++ l) (woven_none rest) ∙ append-nil (text ++ here)))
      (go_on default (length lines + 1) lines line text here refused 1 refl before reply);
}

pub progress_refusal_behind : RepliesGoOn → (default refused : ℕ) (lines : List (List ℕ)) (line here : List ℕ)
    (sent got : List RecordValue) (text b : List ℕ) (bs : List (List ℕ))
    → IsLineReply default (length lines + 1) (without_cr line) here 1
    → Progress default lines sent got text (bs ++ b ∷ []) refused
    → Progress default (lines ++ line ∷ []) sent got text (bs ++ (b ++ here) ∷ []) (refused + 1)
progress_refusal_behind go_on default refused lines line here sent got text b bs reply old = record {
  awaited = omega (arith, old.awaited, length-append bs (b ∷ []), length-append bs ((b ++ here) ∷ []));
  replied = λ rest is.
      let few : length rest ≡ length bs + 1 = omega (arith, old.awaited, length-append bs (b ∷ []), ap length is, length-append got rest) in
      subst (λ t. IsReplyFrom default 1 (lines ++ line ∷ []) t (refused + 1))
      (append_assoc text (woven rest (bs ++ b ∷ [])) here ∙ ap (λ l. text ++ l) (sym (woven_behind rest bs b here few)))
      (go_on default (length lines + 1) lines line (text ++ woven rest (bs ++ b ∷ [])) here refused 1 refl (old.replied rest is) reply);
}

pub progress_blank : RepliesGoOn → (default refused : ℕ) (lines : List (List ℕ)) (line : List ℕ) (sent got : List RecordValue)
    (text : List ℕ) (pending : List (List ℕ))
    → IsLineReply default (length lines + 1) (without_cr line) [] 0
    → Progress default lines sent got text pending refused → Progress default (lines ++ line ∷ []) sent got text pending refused
progress_blank go_on default refused lines line sent got text pending reply old = record {
  awaited = old.awaited;
  replied = λ rest is.
      let next : IsReplyFrom default 1 (lines ++ line ∷ []) ((text ++ woven rest pending) ++ []) (refused + 0) =
      go_on default (length lines + 1) lines line (text ++ woven rest pending) [] refused 0 refl (old.replied rest is) reply in
      subst (λ t. IsReplyFrom default 1 (lines ++ line ∷ []) t refused) (append-nil (text ++ woven rest pending))
      (subst (λ n. IsReplyFrom default 1 (lines ++ line ∷ []) ((text ++ woven rest pending) ++ []) n) (omega arith) next);
}

-- Nothing is awaited any more.
pub handled_whole : (default refused : ℕ) (lines : List (List ℕ)) (sent got : List RecordValue) (text : List ℕ)
    → Progress default lines sent got text [] refused → sent ≡ got → IsReplyFrom default 1 lines text refused
handled_whole default refused lines sent got text old is =
    subst (λ t. IsReplyFrom default 1 lines t refused) (append-nil text) (old.replied [] (is ∙ sym (append-nil got)))
