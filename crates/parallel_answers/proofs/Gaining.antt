-- What is written of open replies and counted, one after the other, and where that stops.
use Rattle.std.proofs.Common.{◌≡◌, ◌≤◌, ◌∙◌, ◌+◌, ◌++◌, ℕ, List, [], ◌∷◌, Option, Result, Ok, Err, OnOk, ap, arith, append-nil, append_assoc, length, length-append, map, refl, subst, sym, true}
use Rattle.std.proofs.KnownBytes.{Appends-nil, Appends-trans}
use Rattle.std.specs.Io.KnownBytes.{Appends}
use Rattle.byte_streams.specs.Stops.{AppendsBy, AppendsPart, is_of_output}
use Rattle.byte_streams.specs.declared.stops.Stop.{Stop}
use Rattle.byte_streams.specs.declared.stops.Stop.TheVariants as stop
use Rattle.text_lines.specs.Lines.{without_cr}
use Rattle.text_lines.specs.Replies.{IsReplyFrom, LineReplies}
use Rattle.text_lines.proofs.PassedLines.{answered_on}
use Rattle.parallel_answers.specs.inside.OpenReplies.{AreOpen, Breaks, CountsOne, Gains, GainsOf, IsOpen, LineRules, TallyKnown, rules_from, rules_of}
use Rattle.parallel_answers.specs.declared.open_replies.OpenReply.TheVariants as variant
use Rattle.parallel_answers.specs.declared.line_tasks.Reply.{Reply}
use Rattle.parallel_answers.specs.declared.open_replies.OpenReply.{OpenReply}
use Rattle.parallel_answers.specs.declared.open_replies.OpenReplies.{OpenReplies}
use Rattle.parallel_answers.proofs.Counting.{counted_behind, counted_length, marked_on, none_counted}

-- ---- lines behind lines

pub replies_append : (R : LineReplies) (number : ℕ) (xs ys : List (List ℕ)) (t u : List ℕ) (n m : ℕ) → IsReplyFrom R number xs t n
    → IsReplyFrom R (number + length xs) ys u m → IsReplyFrom R number (xs ++ ys) (t ++ u) (n + m)
replies_append R number [] ys t u n m (none, nobody) rest =
    let at : number + 0 ≡ number = omega arith in
    let P : ℕ → List ℕ → ℕ → Type 0 = λ k v c. IsReplyFrom R k ys v c in
    let here : P number u m = subst (λ k. P k u m) at rest in
    let text : u ≡ t ++ u = sym (ap (λ v. v ++ u) none) in
    let count : m ≡ n + m = omega (arith, nobody) in
    subst (λ c. P number (t ++ u) c) count (subst (λ v. P number v m) text here)
replies_append R number (x ∷ xs) ys t u n m (here, count, more, others, one, on, is, all) rest =
    let P : ℕ → Type 0 = λ k. IsReplyFrom R k ys u m in (
      here,
      count,
      more ++ u,
      others + m,
      one,
      replies_append R (number + 1) xs ys more u others m on (subst P (omega arith) rest),
      ap (λ v. v ++ u) is ∙ append_assoc here more u,
      omega (arith, all),
    )

-- ---- lines that aren't passed over

pub open_on : {M : Type 0} (R : LineReplies) (W : List ℕ → Type 0) (K : List ℕ → Option M → Type 0) (from number : ℕ) (reply : OpenReply M)
    (line : List ℕ) → from ≤ number → IsOpen (rules_of R W K) number reply line → IsOpen (rules_from R W K from) number reply line
open_on R W K from number (variant.Said reply) line on (says, is) =
    (answered_on R from number (without_cr line) reply.text.items reply.refused on says, marked_on K from number (without_cr line) reply.mark on is)
open_on R W K from number (variant.Awaited text) line on (filled, is, waits) = (filled, is, (on, waits))

-- ---- texts behind texts

part_more : (a b c : Option (List ℕ)) (text here : List ℕ) → Appends a b text → AppendsPart b c here → AppendsPart a c (text ++ here)
part_more a b c text here before (part, rest, is, on) =
    (text ++ part, rest, ap (λ t. text ++ t) is ∙ sym (append_assoc text part rest), Appends-trans a b c text part before on)

pub appends_behind : (s : Stop) (a b c : Option (List ℕ)) (text here : List ℕ) → Appends a b text → AppendsBy s b c here → AppendsBy s a c (text ++ here)
appends_behind stop.NoMemory a b c text here before on = Appends-trans a b c text here before on
appends_behind stop.Unreadable a b c text here before on = Appends-trans a b c text here before on
appends_behind stop.Unwritable a b c text here before on = part_more a b c text here before on
appends_behind stop.NoReader a b c text here before on = part_more a b c text here before on

pub on_ok : {A E : Type 0} (r : Result A E) (P Q : Type 0) → OnOk r P → (P → Q) → OnOk r Q
on_ok (Ok a) P Q ok then = then ok
on_ok (Err e) P Q ok then = tt

-- ---- one line more

module _ {M : Type 0} (rules : LineRules M) where
  open_more : (number : ℕ) (replies : List (OpenReply M)) (reply : OpenReply M) (lines : List (List ℕ)) (line : List ℕ)
      → AreOpen rules number replies lines → IsOpen rules (number + length lines) reply line
      → AreOpen rules number (replies ++ reply ∷ []) (lines ++ line ∷ [])
  open_more number [] reply [] line left one =
      let at : number + 0 ≡ number = omega arith in (subst (λ n. IsOpen rules n reply line) at one, tt)
  open_more number [] reply (l ∷ ls) line left one = absurd left
  open_more number (o ∷ os) reply [] line left one = absurd left
  open_more number (o ∷ os) reply (l ∷ ls) line left one =
      let P : ℕ → Type 0 = λ n. IsOpen rules n reply line in
      (left.0, open_more (number + 1) os reply ls line left.1 (subst P (omega arith) one))

  pub opened : (first number : ℕ) (replies more : List (OpenReply M)) (reply : OpenReply M) (lines : List (List ℕ)) (line : List ℕ)
      → more ≡ replies ++ reply ∷ [] → first + length lines ≡ number → IsOpen rules number reply line
      → AreOpen rules first replies lines → AreOpen rules first more (lines ++ line ∷ [])
  opened first number replies more reply lines line is at one left =
      rw is (open_more first replies reply lines line left (subst (λ n. IsOpen rules n reply line) (sym at) one))

  -- It stops, and nothing is written.
  pub breaks_here : (a : OpenReplies M) (s : Stop) (old : Option (List ℕ)) → s ≡ stop.NoMemory → Breaks rules a s old old
  unfolding Breaks
  breaks_here a s old is =
      ([], rw is (Appends-nil old), λ lines left. ([], lines, 0, refl, (refl, refl)))

-- ---- replies that are taken

module _ {M Y : Type 0} (rules : LineRules M) (knows : TallyKnown Y) where
  pub gains_none : (o : OpenReplies M) (tally : Y) → Gains rules knows o o tally tally []
  unfolding Gains
  gains_none o tally lines left = record {
    done = [];
    rest = lines;
    count = 0;
    split = refl;
    replies = (refl, refl);
    left = left;
    first = omega arith;
    refused = omega arith;
    counted = λ counted before many known. none_counted knows counted before tally known;
  }

  pub gains_then : (a b c : OpenReplies M) (k l m : Y) (t u : List ℕ) → Gains rules knows a b k l t → Gains rules knows b c l m u
      → Gains rules knows a c k m (t ++ u)
  unfolding Gains
  gains_then a b c k l m t u first second lines left =
      let f = first lines left in
      let s = second f.rest f.left in
      let from = subst (λ n. IsReplyFrom rules.replies n s.done u s.count) f.first s.replies in
      record {
        done = f.done ++ s.done;
        rest = s.rest;
        count = f.count + s.count;
        split = f.split ∙ ap (λ (l : List (List ℕ)). f.done ++ l) s.split ∙ sym (append_assoc f.done s.done s.rest);
        replies = replies_append rules.replies a.first f.done s.done t u f.count s.count f.replies from;
        left = s.left;
        first = omega (arith, f.first, s.first, length-append f.done s.done);
        refused = omega (arith, f.refused, s.refused);
        counted = λ counted before many known.
            counted_behind knows counted before m f.done s.done
            (s.counted counted (before ++ map without_cr f.done) (counted_length before f.done a.first many ∙ sym f.first)
            (f.counted counted before many known));
      }

  -- The first is taken, with its reply, and counted.
  pub gains_first : (a b : OpenReplies M) (k l : Y) (reply : OpenReply M) (output : Reply M)
      → a.replies.items ≡ reply ∷ b.replies.items → b.first ≡ a.first + 1 → b.refused ≡ a.refused + output.refused
      → ((line : List ℕ) → IsOpen rules a.first reply line → rules.replies a.first (without_cr line) output.text.items output.refused)
      → ((line : List ℕ) → IsOpen rules a.first reply line → CountsOne knows a.first k l line)
      → Gains rules knows a b k l output.text.items
  unfolding Gains
  gains_first a b k l reply output is first refused says counts lines left =
      pick lines (subst (λ os. AreOpen rules a.first os lines) is left)
    where
      pick : (lines : List (List ℕ)) → AreOpen rules a.first (reply ∷ b.replies.items) lines → GainsOf rules knows a b k l output.text.items lines
      pick [] left = absurd left
      pick (line ∷ lines) (one, rest) = record {
        done = line ∷ [];
        rest = lines;
        count = output.refused;
        split = refl;
        replies = (
          output.text.items,
          output.refused,
          [],
          0,
          says line one,
          (refl, refl),
          sym (append-nil output.text.items),
          omega arith,
        );
        left = subst (λ n. AreOpen rules n b.replies.items lines) (sym first) rest;
        first = first;
        refused = refused;
        counted = counts line one;
      }

  -- ---- where it stops

  -- what was gained is written in part, or whole
  pub breaks_off : (a b : OpenReplies M) (s : Stop) (old new : Option (List ℕ)) (k l : Y) (text : List ℕ)
      → Gains rules knows a b k l text
      → is_of_output s ≡ true → AppendsPart old new text → Breaks rules a s old new
  unfolding Breaks Gains
  breaks_off a b stop.NoMemory old new k l text gains output part = cc
  breaks_off a b stop.Unreadable old new k l text gains output part = cc
  breaks_off a b stop.Unwritable old new k l text gains output part =
      (text, part, λ lines left. let g = gains lines left in (g.done, g.rest, g.count, g.split, g.replies))
  breaks_off a b stop.NoReader old new k l text gains output part =
      (text, part, λ lines left. let g = gains lines left in (g.done, g.rest, g.count, g.split, g.replies))

  -- It stops behind replies that were written.
  pub breaks_behind : (a b : OpenReplies M) (s : Stop) (old mid new : Option (List ℕ)) (k l : Y) (text : List ℕ)
      → Gains rules knows a b k l text
      → Appends old mid text → Breaks rules b s mid new → Breaks rules a s old new
  unfolding Breaks Gains
  breaks_behind a b s old mid new k l text gains before (here, on, first) = (
    text ++ here,
    appends_behind s old mid new text here before on,
    λ lines left.
        let g = gains lines left in
        let (done, rest, count, split, replies) = first g.rest g.left in
        let from = subst (λ k. IsReplyFrom rules.replies k done here count) g.first replies in (
          g.done ++ done,
          rest,
          g.count + count,
          g.split ∙ ap (λ (l : List (List ℕ)). g.done ++ l) split ∙ sym (append_assoc g.done done rest),
          replies_append rules.replies a.first g.done done text here g.count count g.replies from,
        ),
  )
