-- The replies to lines: to one line more, to the last, and where they stop.
use Rattle.std.proofs.Common.{◌≡◌, ◌<◌, ◌≤◌, ◌-◌, Bool, true, false, Option, None, Some, length, map, take, ℕ, ◌+◌, List}
use Rattle.std.proofs.Common.{[], ◌∷◌, ◌++◌, refl, ap, sym, ◌∙◌, arith, subst, append_assoc}
use Rattle.std.proofs.lemmas.List.{append-nil, length-map, map-append, take-append-le}
use Rattle.std.proofs.KnownBytes.{Appends-kept, Appends-trans, Consumes-trans}
use Rattle.std.proofs.Math.Seq.{take-append_seam, take-length}
use Rattle.std.specs.Io.KnownBytes.{Appends, Consumes, IsAtEnd, Keeps}
use Rattle.byte_streams.specs.declared.stops.Stop.{Stop}
use Rattle.byte_streams.specs.declared.stops.Stop.TheVariants as stop
use Rattle.byte_streams.specs.Inputs.{MayBe}
use Rattle.text_lines.specs.Lines.{lines_of, texts_of, without_cr}
use Rattle.text_lines.specs.Replies.{LineReplies, RepliesBehind, IsReply, IsReplyFrom, IsReplyToFirst, RepliesGoOn, behind}
use Rattle.byte_streams.specs.Stops.{AppendsBy, AppendsPart, is_of_output}
use Rattle.text_lines.specs.inside.InputLines.{IsOneLine, TakesLine}
use Rattle.text_lines.proofs.InputLines.{lines_first, lines_one}

replies_more : (says : LineReplies) (number : ℕ) (lines : List (List ℕ)) (line text here : List ℕ) (before count : ℕ)
    → IsReplyFrom says number lines text before
    → says (number + length lines) (without_cr line) here count → IsReplyFrom says number (lines ++ line ∷ []) (text ++ here) (before + count)
replies_more says number [] line text here before count (none, nobody) reply =
    let P : ℕ → Type 0 = λ n. says n (without_cr line) here count in
    let at : P number = subst P (omega arith) reply in
    (here, count, [], 0, at, (refl, refl), ap (λ t. t ++ here) none ∙ sym (append-nil here), omega (arith, nobody))
replies_more says number (l ∷ ls) line text here before count (first, few, more, others, one, on, is, all) reply =
    let P : ℕ → Type 0 = λ n. says n (without_cr line) here count in
    let rest = replies_more says (number + 1) ls line more here others count on (subst P (omega arith) reply) in
    (first, few, more ++ here, others + count, one, rest, ap (λ t. t ++ here) is ∙ append_assoc first more here, omega (arith, all))

-- The same of all lines of an input so far.
pub replies_next : (says : LineReplies) → RepliesGoOn says
replies_next says number lines line text here before count is replies reply =
    let P : ℕ → Type 0 = λ n. says n (without_cr line) here count in
    replies_more says 1 lines line text here before count replies (subst P (omega (arith, is)) reply)

-- ---- by the lines before

replies_as : (says others : LineReplies) (number : ℕ) (lines : List (List ℕ)) (text : List ℕ) (count : ℕ)
    → ((n : ℕ) (line here : List ℕ) (c : ℕ) → n < number + length lines → says n line here c → others n line here c)
    → IsReplyFrom says number lines text count → IsReplyFrom others number lines text count
replies_as says others number [] text count each none = none
replies_as says others number (l ∷ ls) text count each (here, c, more, m, one, on, is, all) = (
  here,
  c,
  more,
  m,
  each number (without_cr l) here c (omega arith) one,
  replies_as says others (number + 1) ls more m (λ n line text k less. each n line text k (omega (arith, less))) on,
  is,
  all,
)

-- What stands behind lines changes nothing of what they are answered.
behind_more : (follows : RepliesBehind) (lines more : List (List ℕ)) (text : List ℕ) (count : ℕ)
    → IsReplyFrom (behind follows (map without_cr lines)) 1 lines text count
    → IsReplyFrom (behind follows (map without_cr (lines ++ more))) 1 lines text count
behind_more follows lines more text count replies =
    replies_as (behind follows (map without_cr lines)) (behind follows (map without_cr (lines ++ more))) 1 lines text count
    (λ n line here c less says. subst (λ ls. follows ls n line here c) (front n less) says) replies
  where
    front : (n : ℕ) → n < 1 + length lines → take (n - 1) (map without_cr lines) ≡ take (n - 1) (map without_cr (lines ++ more))
    front n less =
        let few : n - 1 ≤ length (map without_cr lines) = omega (arith, less, length-map lines without_cr) in
        sym (ap (take (n - 1)) (map-append without_cr lines more) ∙ take-append-le (n - 1) (map without_cr lines) (map without_cr more) few)

pub behind_next : (follows : RepliesBehind) (number : ℕ) (lines : List (List ℕ)) (line text here : List ℕ) (before count : ℕ)
    → length lines + 1 ≡ number → IsReplyFrom (behind follows (map without_cr lines)) 1 lines text before
    → follows (map without_cr lines) number (without_cr line) here count
    → IsReplyFrom (behind follows (map without_cr (lines ++ line ∷ []))) 1 (lines ++ line ∷ []) (text ++ here) (before + count)
behind_next follows number lines line text here before count is replies reply =
    let all = map without_cr (lines ++ line ∷ []) in
    let few : number - 1 ≡ length (map without_cr lines) = omega (arith, is, length-map lines without_cr) in
    let those : map without_cr lines ≡ take (number - 1) all =
    sym (ap (λ n. take n all) few ∙ ap (take (length (map without_cr lines))) (map-append without_cr lines (line ∷ []))
    ∙ take-append_seam (map without_cr lines) (without_cr line ∷ [])) in
    replies_next (behind follows all) number lines line text here before count is (behind_more follows lines (line ∷ []) text before replies)
    (subst (λ ls. follows ls number (without_cr line) here count) those reply)

-- The lines before one stand as many as those that were taken.
pub texts_before : (lines : List (List ℕ)) (number : ℕ) → length lines + 1 ≡ number → length (map without_cr lines) + 1 ≡ number
texts_before lines number is = omega (arith, is, length-map lines without_cr)

-- ---- an input of which first lines are taken

-- A known input begins with what was taken of it, and another may be just that.
pub input_from : (known left : Option (List ℕ)) (seen : List ℕ) → Consumes known left seen → (rest : List ℕ) × MayBe known (seen ++ rest)
input_from None left seen taken = ([], tt)
input_from (Some x) None seen taken = absurd taken
input_from (Some x) (Some y) seen taken = (y, sym taken)

pub input_at_end : (known left : Option (List ℕ)) (seen : List ℕ) → Consumes known left seen → IsAtEnd left → MayBe known seen
input_at_end None left seen taken end = tt
input_at_end (Some x) None seen taken end = absurd taken
input_at_end (Some x) (Some y) seen taken end = sym (taken ∙ ap (λ l. seen ++ l) end ∙ append-nil seen)

-- The lines that were taken are the first ones, whatever follows.
abbrev pub Opens : List ℕ → List (List ℕ) → Type 0
Opens seen lines = (rest : List ℕ) → lines_of (seen ++ rest) ≡ lines ++ lines_of rest

pub opens_more : (seen line : List ℕ) (lines : List (List ℕ)) → IsOneLine line → Opens seen lines
    → Opens (seen ++ (line ++ 10 ∷ [])) (lines ++ line ∷ [])
opens_more seen line lines one opens rest =
    ap lines_of (append_assoc seen (line ++ 10 ∷ []) rest ∙ ap (λ l. seen ++ l) (append_assoc line (10 ∷ []) rest)) ∙ opens (line ++ 10 ∷ rest)
    ∙ ap (λ l. lines ++ l) (lines_first line rest one) ∙ sym (append_assoc lines (line ∷ []) (lines_of rest))

-- Those and the last, behind which no newline stands, are all.
pub last_lines : (seen line : List ℕ) (lines : List (List ℕ)) → Opens seen lines → IsOneLine line → lines_of (seen ++ line) ≡ lines ++ line ∷ []
last_lines seen line lines opens one = opens line ∙ ap (λ l. lines ++ l) (lines_one line one)

take_front : (xs ys : List (List ℕ)) → take (length xs) (xs ++ ys) ≡ xs
take_front xs ys = take-append_seam xs ys

opened_reply : (follows : RepliesBehind) (refusals : ℕ) (seen rest text : List ℕ) (lines : List (List ℕ)) → Opens seen lines
    → IsReplyFrom (behind follows (map without_cr lines)) 1 lines text refusals
    → IsReplyToFirst (behind follows (texts_of (seen ++ rest))) (seen ++ rest) text
unfolding IsReplyToFirst
opened_reply follows refusals seen rest text lines opens replies =
    let P : List (List ℕ) → Type 0 = λ ls. IsReplyFrom (behind follows (map without_cr ls)) 1 lines text refusals in
    let Q : List (List ℕ) → Type 0 = λ ls. IsReplyFrom (behind follows (texts_of (seen ++ rest))) 1 ls text refusals in
    let first : take (length lines) (lines_of (seen ++ rest)) ≡ lines = ap (take (length lines)) (opens rest) ∙ take_front lines (lines_of rest) in
    let more = subst P (sym (opens rest)) (behind_more follows lines (lines_of rest) text refusals replies) in
    (length lines, refusals, subst Q (sym first) more)

-- The last line has no newline behind it.
pub last_reply : (follows : RepliesBehind) (number refusals count : ℕ) (known left end : Option (List ℕ))
    (seen line text here : List ℕ) (lines : List (List ℕ))
    → Consumes known left seen → Opens seen lines → IsReplyFrom (behind follows (map without_cr lines)) 1 lines text refusals
    → length lines + 1 ≡ number
    → TakesLine true left end line → follows (map without_cr lines) number (without_cr line) here count
    → MayBe known (seen ++ line) × IsReply (behind follows (texts_of (seen ++ line))) (seen ++ line) (text ++ here) (refusals + count)
unfolding IsReply
last_reply follows number refusals count known left end seen line text here lines taken opens replies is (one, last, at_end) reply =
    let all = last_lines seen line lines opens one in
    let Q : List (List ℕ) → Type 0 = λ ls. IsReplyFrom (behind follows (map without_cr ls)) 1 ls (text ++ here) (refusals + count) in (
      input_at_end known end (seen ++ line) (Consumes-trans known left end seen line taken last) at_end,
      subst Q (sym all) (behind_next follows number lines line text here refusals count is replies reply),
    )

-- What `write_replies` promises where it stops.
abbrev pub Stopped : Stop → RepliesBehind → (known old new : Option (List ℕ)) → Type 0
Stopped stop follows known old new = (bytes : List ℕ) × (text : List ℕ) × MayBe known bytes
    × IsReplyToFirst (behind follows (texts_of bytes)) bytes text × AppendsBy stop old new text

-- What `answer_next` promises where a write breaks off.
abbrev pub Cut : (line : List ℕ → List ℕ → ℕ → Type 0) → (left next old new : Option (List ℕ)) → Type 0
Cut says left next old new = (is_last : Bool) × (line : List ℕ) × (here : List ℕ) × (count : ℕ)
    × says (without_cr line) here count × TakesLine is_last left next line × AppendsPart old new here

-- Between two lines: the replies so far are written.
between_lines : (stop : Stop) (follows : RepliesBehind) (refusals : ℕ) (known left old new : Option (List ℕ))
    (seen text : List ℕ) (lines : List (List ℕ))
    → Consumes known left seen → Opens seen lines → IsReplyFrom (behind follows (map without_cr lines)) 1 lines text refusals
    → AppendsBy stop old new text → Stopped stop follows known old new
between_lines stop follows refusals known left old new seen text lines taken opens replies appends =
    let (rest, is) = input_from known left seen taken in
    (seen ++ rest, text, is, opened_reply follows refusals seen rest text lines opens replies, appends)

part_more : (a b c : Option (List ℕ)) (text here : List ℕ) → Appends a b text → AppendsPart b c here → AppendsPart a c (text ++ here)
part_more a b c text here before (part, rest, is, on) =
    (text ++ part, rest, ap (λ t. text ++ t) is ∙ sym (append_assoc text part rest), Appends-trans a b c text part before on)

within_line : (follows : RepliesBehind) (number refusals : ℕ) (known left next old before new : Option (List ℕ))
    (seen text : List ℕ) (lines : List (List ℕ))
    → Consumes known left seen → Opens seen lines → IsReplyFrom (behind follows (map without_cr lines)) 1 lines text refusals
    → length lines + 1 ≡ number → Appends old before text
    → Cut (follows (map without_cr lines) number) left next before new
    → (bytes : List ℕ) × (all : List ℕ) × MayBe known bytes × IsReplyToFirst (behind follows (texts_of bytes)) bytes all
    × AppendsPart old new all
unfolding IsReply IsReplyToFirst
within_line follows number refusals known left next old before new seen text lines taken opens replies is appends
    (true, line, here, count, reply, takes, part) =
    let (may, all) = last_reply follows number refusals count known left next seen line text here lines taken opens replies is takes reply in
    let says = behind follows (texts_of (seen ++ line)) in
    let Q : List (List ℕ) → Type 0 = λ ls. IsReplyFrom says 1 ls (text ++ here) (refusals + count) in
    let whole : take (length (lines_of (seen ++ line))) (lines_of (seen ++ line)) ≡ lines_of (seen ++ line) =
    take-length (lines_of (seen ++ line)) in (
      seen ++ line,
      text ++ here,
      may,
      (length (lines_of (seen ++ line)), refusals + count, subst Q (sym whole) all),
      part_more old before new text here appends part,
    )
within_line follows number refusals known left next old before new seen text lines taken opens replies is appends
    (false, line, here, count, reply, (one, on), part) =
    let more = behind_next follows number lines line text here refusals count is replies reply in
    let seen' = seen ++ (line ++ 10 ∷ []) in
    let (rest, may) = input_from known next seen' (Consumes-trans known left next seen (line ++ 10 ∷ []) taken on) in (
      seen' ++ rest,
      text ++ here,
      may,
      opened_reply follows (refusals + count) seen' rest (text ++ here) (lines ++ line ∷ []) (opens_more seen line lines one opens) more,
      part_more old before new text here appends part,
    )

pub stopped : (stop : Stop) (follows : RepliesBehind) (number refusals : ℕ) (known left next old before new : Option (List ℕ))
    (seen text : List ℕ) (lines : List (List ℕ))
    → Consumes known left seen → Opens seen lines → IsReplyFrom (behind follows (map without_cr lines)) 1 lines text refusals
    → length lines + 1 ≡ number → Appends old before text
    → (is_of_output stop ≡ false → Keeps before new)
    → (is_of_output stop ≡ true → Cut (follows (map without_cr lines) number) left next before new)
    → Stopped stop follows known old new
stopped stop.NoMemory follows number refusals known left next old before new seen text lines taken opens replies is appends kept cut =
    between_lines stop.NoMemory follows refusals known left old new seen text lines taken opens replies
    (Appends-kept old before new text appends (kept refl))
stopped stop.Unreadable follows number refusals known left next old before new seen text lines taken opens replies is appends kept cut =
    between_lines stop.Unreadable follows refusals known left old new seen text lines taken opens replies
    (Appends-kept old before new text appends (kept refl))
stopped stop.Unwritable follows number refusals known left next old before new seen text lines taken opens replies is appends kept cut =
    within_line follows number refusals known left next old before new seen text lines taken opens replies is appends (cut refl)
stopped stop.NoReader follows number refusals known left next old before new seen text lines taken opens replies is appends kept cut =
    within_line follows number refusals known left next old before new seen text lines taken opens replies is appends (cut refl)

-- No input is without end: before the last line that can be counted.
pub gave_up : (follows : RepliesBehind) (refusals : ℕ) (known left old new : Option (List ℕ)) (seen text : List ℕ) (lines : List (List ℕ))
    → Consumes known left seen → Opens seen lines → IsReplyFrom (behind follows (map without_cr lines)) 1 lines text refusals
    → Appends old new text → Stopped stop.NoMemory follows known old new
gave_up follows refusals known left old new seen text lines taken opens replies appends =
    between_lines stop.NoMemory follows refusals known left old new seen text lines taken opens replies appends
