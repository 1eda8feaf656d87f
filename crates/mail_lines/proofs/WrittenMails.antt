-- What is written of lines: of one more, of empty ones, and where it stops.
use Rattle.std.proofs.Common.{◌≡◌, ◌≤◌, ◌<◌, ◌+◌, ◌-◌, ◌⊎◌, inl, inr, ℕ, zero, suc, false, List, [], ◌∷◌, ◌++◌, Option, Result, Ok, Err, IfOk, ap, append_assoc, append-nil, arith, get_or, ◌==◌, if◌then◌else◌, length, length-append, map, refl, subst, sym, take, ◌∙◌}
use Rattle.std.proofs.lemmas.Bool.{cases_lt}
use Rattle.std.proofs.lemmas.List.{length-map, map-append, take-append-le}
use Rattle.std.proofs.KnownBytes.{Appends-kept, Appends-nil, Appends-trans}
use Rattle.std.proofs.Math.Seq.{get_or-append_seam, take-append_seam}
use Rattle.std.specs.Io.KnownBytes.{Appends}
use Rattle.byte_streams.specs.Stops.{AppendsBy, AppendsPart, is_of_output, stop_of}
use Rattle.byte_streams.specs.declared.inputs.InputFault.{InputFault}
use Rattle.byte_streams.specs.declared.inputs.InputFault.TheVariants as fault
use Rattle.byte_streams.specs.declared.stops.Stop.{Stop}
use Rattle.byte_streams.specs.declared.stops.Stop.TheVariants as stop
use Rattle.text_lines.specs.Lines.{lines_of, texts_of, without_cr}
use Rattle.text_lines.specs.Replies.{IsReply, IsReplyFrom, IsReplyToFirst, LineReplies, RepliesBehind, behind}
use Rattle.text_lines.specs.Writers.{Follows}
use Rattle.text_lines.specs.LinesFrom.{lines_from}
use Rattle.text_lines.proofs.LineReplies.{behind_next, replies_next}
use Rattle.text_lines.proofs.PassedLines.{answered_on, first_pushed, follows_on, knows_on, knows_passed, later_pushed, passed_over}
use Rattle.mail_lines.specs.Mails.{with_cr}
use Rattle.mail_lines.specs.inside.MailReplies.{AreWritten, BreakIn, BreaksIn, IsWritten, MailRules, SkipBlanks, rules_from, rules_of}
use Rattle.mail_lines.specs.inside.OpenMails.{empty_lines, with_crs}

-- ---- a line with its CR

by_last : (line : List ℕ) (last n : ℕ) → last ≡ 13 → n ≡ length line
    → (if last == 13 then take n (line ++ 13 ∷ []) else line ++ 13 ∷ []) ≡ line
by_last line last n is few = rw (is, few) (take-append_seam line (13 ∷ []))

pub without_with : (line : List ℕ) → without_cr (with_cr line) ≡ line
without_with line =
    let few : length (line ++ 13 ∷ []) - 1 ≡ length line = omega (arith, length-append line (13 ∷ [])) in
    by_last line _ _ (ap (λ n. get_or (line ++ 13 ∷ []) n 0) few ∙ get_or-append_seam line 13 [] 0) few

pub texts_with : (lines : List (List ℕ)) → map without_cr (with_crs lines) ≡ lines
texts_with [] = refl
texts_with (line ∷ lines) = ap (λ l. l ∷ map without_cr (with_crs lines)) (without_with line) ∙ ap (λ ls. line ∷ ls) (texts_with lines)

pub silent_fault : (f : InputFault) → is_of_output (stop_of f) ≡ false
silent_fault fault.Unreadable = refl
silent_fault fault.NoMemory = refl

pub ok_both : {A E : Type 0} (r : Result A E) (P Q : A → Type 0) → IfOk r P → IfOk r Q → IfOk r (λ a. P a × Q a)
ok_both (Ok a) P Q one other = (one, other)
ok_both (Err e) P Q one other = tt

-- ---- lines before others

replies_as : (says others : LineReplies) (number : ℕ) (lines : List (List ℕ)) (text : List ℕ) (count : ℕ)
    → ((n : ℕ) (line here : List ℕ) (c : ℕ) → n < number + length lines → says n line here c → others n line here c)
    → IsReplyFrom says number lines text count → IsReplyFrom others number lines text count
replies_as says others number [] text count each none = none
replies_as says others number (l ∷ ls) text count each (here, c, more, m, one, on, is, all) = (
  here,
  c,
  more,
  m,
  each number (without_cr l) here c (omega arith) one,
  replies_as says others (number + 1) ls more m (λ n line t k less. each n line t k (omega (arith, less))) on,
  is,
  all,
)

behind_more : (follows : RepliesBehind) (lines more : List (List ℕ)) (text : List ℕ) (count : ℕ)
    → IsReplyFrom (behind follows (map without_cr lines)) 1 lines text count
    → IsReplyFrom (behind follows (map without_cr (lines ++ more))) 1 lines text count
behind_more follows lines more text count replies =
    replies_as (behind follows (map without_cr lines)) (behind follows (map without_cr (lines ++ more))) 1 lines text count
    (λ n line here c less says. subst (λ ls. follows ls n line here c) (front n less) says) replies
  where
    front : (n : ℕ) → n < 1 + length lines → take (n - 1) (map without_cr lines) ≡ take (n - 1) (map without_cr (lines ++ more))
    front n less =
        let few : n - 1 ≤ length (map without_cr lines) = omega (arith, less, length-map lines without_cr) in
        sym (ap (take (n - 1)) (map-append without_cr lines more) ∙ take-append-le (n - 1) (map without_cr lines) (map without_cr more) few)

part_more : (a b c : Option (List ℕ)) (text here : List ℕ) → Appends a b text → AppendsPart b c here → AppendsPart a c (text ++ here)
part_more a b c text here before (part, rest, is, on) =
    (text ++ part, rest, ap (λ t. text ++ t) is ∙ sym (append_assoc text part rest), Appends-trans a b c text part before on)

module _ {M : Type 0} (rules : MailRules M) (old : M) where
  -- ---- nothing yet

  pub none_written : (before : Option (List ℕ)) → AreWritten rules old old before before [] 0
  none_written before = record {
    text = [];
    replies = (refl, refl);
    follows = λ known. ((refl, refl), known);
    appends = Appends-nil before;
    few = omega arith;
  }

  pub written_as : (new : M) (a b : Option (List ℕ)) (lines : List (List ℕ)) (n m : ℕ) → n ≡ m → AreWritten rules old new a b lines n
      → AreWritten rules old new a b lines m
  written_as new a b lines n m is w = subst (λ k. AreWritten rules old new a b lines k) is w

  pub few_written : (new : M) (a b : Option (List ℕ)) (lines : List (List ℕ)) (refused : ℕ) → AreWritten rules old new a b (with_crs lines) refused
      → refused ≤ length lines
  few_written new a b lines refused w = omega (arith, w.few, length-map lines with_cr)

  -- ---- one line more

  raw_next : (mid new : M) (a b c : Option (List ℕ)) (lines : List (List ℕ)) (raw : List ℕ) (refused count number : ℕ) → count ≤ 1
      → AreWritten rules old mid a b lines refused → number ≡ length lines + 1 → IsWritten rules number (without_cr raw) mid new b c count
      → AreWritten rules old new a c (lines ++ raw ∷ []) (refused + count)
  raw_next mid new a b c lines raw refused count number few w at (here, (reply, knows), on) = record {
    text = w.text ++ here;
    replies = replies_next rules.replies number lines raw w.text here refused count (sym at) w.replies reply;
    follows = λ known.
        let (replies, all) = w.follows known in
        let (follows, after) = knows (map without_cr lines) (omega (arith, at, length-map lines without_cr)) all in (
          behind_next rules.follows number lines raw w.text here refused count (sym at) replies follows,
          subst (rules.knows new) (sym (map-append without_cr lines (raw ∷ []))) after,
        );
    appends = Appends-trans a b c w.text here w.appends on;
    few = omega (arith, w.few, few, length-append lines (raw ∷ []));
  }

  pub written_next : (mid new : M) (a b c : Option (List ℕ)) (lines : List (List ℕ)) (line : List ℕ) (refused count number : ℕ) → count ≤ 1
      → AreWritten rules old mid a b (with_crs lines) refused → number ≡ length lines + 1 → IsWritten rules number line mid new b c count
      → AreWritten rules old new a c (with_crs (lines ++ line ∷ [])) (refused + count)
  written_next mid new a b c lines line refused count number few w at one =
      subst (λ ls. AreWritten rules old new a c ls (refused + count)) (sym (map-append with_cr lines (line ∷ [])))
      (raw_next mid new a b c (with_crs lines) (with_cr line) refused count number few w (at ∙ ap (λ n. n + 1) (sym (length-map lines with_cr)))
      (subst (λ l. IsWritten rules number l mid new b c count) (sym (without_with line)) one))

  -- Empty lines are answered with nothing.
  pub empty_written : (mid : M) (a b : Option (List ℕ)) (lines : List (List ℕ)) (refused n : ℕ) → SkipBlanks rules
      → AreWritten rules old mid a b (with_crs lines) refused → AreWritten rules old mid a b (with_crs (lines ++ empty_lines n)) refused
  empty_written mid a b lines refused zero skips w =
      subst (λ ls. AreWritten rules old mid a b (with_crs ls) refused) (sym (append-nil lines)) w
  empty_written mid a b lines refused (suc n) skips w =
      let same : refused + 0 ≡ refused = omega arith in
      let one = written_next mid mid a b b lines [] refused 0 (length lines + 1) (omega arith) w refl (
        [],
        (skips.replies (length lines + 1), λ before many known. (skips.follows before (length lines + 1), skips.knows mid before known)),
        Appends-nil b,
      ) in
      subst (λ ls. AreWritten rules old mid a b (with_crs ls) refused) (append_assoc lines ([] ∷ []) (empty_lines n))
      (empty_written mid a b (lines ++ [] ∷ []) refused n skips
      (subst (λ k. AreWritten rules old mid a b (with_crs (lines ++ [] ∷ [])) k) same one))

  -- ---- where it stops

  pub breaks_here : (mid : M) (s : Stop) (a b : Option (List ℕ)) (lines : List (List ℕ)) (refused : ℕ)
      → AreWritten rules old mid a b lines refused → s ≡ stop.NoMemory → BreakIn rules old s a b lines
  breaks_here mid s a b lines refused w is = record {
    done = lines;
    more = [];
    text = w.text;
    refused = refused;
    split = sym (append-nil lines);
    replies = w.replies;
    follows = λ known. (w.follows known).0;
    appends = subst (λ t. AppendsBy t a b w.text) (sym is) w.appends;
  }

  pub breaks_silent : (mid : M) (s : Stop) (a b : Option (List ℕ)) (lines : List (List ℕ)) (refused : ℕ) → is_of_output s ≡ false
      → AreWritten rules old mid a b lines refused → BreakIn rules old s a b lines
  breaks_silent mid stop.NoMemory a b lines refused silent w = breaks_here mid stop.NoMemory a b lines refused w refl
  breaks_silent mid stop.Unreadable a b lines refused silent w = record {
    done = lines;
    more = [];
    text = w.text;
    refused = refused;
    split = sym (append-nil lines);
    replies = w.replies;
    follows = λ known. (w.follows known).0;
    appends = w.appends;
  }
  breaks_silent mid stop.Unwritable a b lines refused silent w = cc
  breaks_silent mid stop.NoReader a b lines refused silent w = cc

  pub breaks_more : (s : Stop) (a b : Option (List ℕ)) (lines more : List (List ℕ)) → BreakIn rules old s a b lines
      → BreakIn rules old s a b (lines ++ more)
  breaks_more s a b lines more broken = record {
    done = broken.done;
    more = broken.more ++ more;
    text = broken.text;
    refused = broken.refused;
    split = ap (λ ls. ls ++ more) broken.split ∙ append_assoc broken.done broken.more more;
    replies = broken.replies;
    follows = broken.follows;
    appends = broken.appends;
  }

  part_raw : (mid : M) (a b c : Option (List ℕ)) (lines : List (List ℕ)) (raw : List ℕ) (refused count number : ℕ) (here : List ℕ)
      → AreWritten rules old mid a b lines refused → number ≡ length lines + 1
      → rules.replies number (without_cr raw) here count
      → Follows rules.knows (λ ls. rules.follows ls number) number (without_cr raw) mid here count → AppendsPart b c here
      → (s : Stop) → ((text : List ℕ) → AppendsPart a c text → AppendsBy s a c text) → BreakIn rules old s a c (lines ++ raw ∷ [])
  part_raw mid a b c lines raw refused count number here w at reply follows part s by = record {
    done = lines ++ raw ∷ [];
    more = [];
    text = w.text ++ here;
    refused = refused + count;
    split = sym (append-nil (lines ++ raw ∷ []));
    replies = replies_next rules.replies number lines raw w.text here refused count (sym at) w.replies reply;
    follows = λ known.
        let (replies, all) = w.follows known in
        behind_next rules.follows number lines raw w.text here refused count (sym at) replies
        (follows (map without_cr lines) (omega (arith, at, length-map lines without_cr)) all);
    appends = by (w.text ++ here) (part_more a b c w.text here w.appends part);
  }

  breaks_raw : (mid : M) (s : Stop) (a b c : Option (List ℕ)) (lines : List (List ℕ)) (raw : List ℕ) (refused number : ℕ)
      → AreWritten rules old mid a b lines refused → number ≡ length lines + 1 → BreaksIn rules number (without_cr raw) mid b c s
      → BreakIn rules old s a c (lines ++ raw ∷ [])
  breaks_raw mid stop.NoMemory a b c lines raw refused number w at keeps = record {
    done = lines;
    more = raw ∷ [];
    text = w.text;
    refused = refused;
    split = refl;
    replies = w.replies;
    follows = λ known. (w.follows known).0;
    appends = Appends-kept a b c w.text w.appends keeps;
  }
  breaks_raw mid stop.Unreadable a b c lines raw refused number w at never = absurd never
  breaks_raw mid stop.Unwritable a b c lines raw refused number w at (here, count, (reply, follows), part) =
      part_raw mid a b c lines raw refused count number here w at reply follows part stop.Unwritable (λ text p. p)
  breaks_raw mid stop.NoReader a b c lines raw refused number w at (here, count, (reply, follows), part) =
      part_raw mid a b c lines raw refused count number here w at reply follows part stop.NoReader (λ text p. p)

  pub breaks_next : (mid : M) (s : Stop) (a b c : Option (List ℕ)) (lines : List (List ℕ)) (line : List ℕ) (refused number : ℕ)
      → AreWritten rules old mid a b (with_crs lines) refused → number ≡ length lines + 1 → BreaksIn rules number line mid b c s
      → BreakIn rules old s a c (with_crs (lines ++ line ∷ []))
  breaks_next mid s a b c lines line refused number w at one =
      subst (λ ls. BreakIn rules old s a c ls) (sym (map-append with_cr lines (line ∷ [])))
      (breaks_raw mid s a b c (with_crs lines) (with_cr line) refused number w (at ∙ ap (λ n. n + 1) (sym (length-map lines with_cr)))
      (subst (λ l. BreaksIn rules number l mid b c s) (sym (without_with line)) one))

  -- Lines behind it change nothing.
  pub breaks_before : (s : Stop) (a b : Option (List ℕ)) (lines more all : List (List ℕ)) → all ≡ lines ++ more
      → BreakIn rules old s a b (with_crs lines) → BreakIn rules old s a b (with_crs all)
  breaks_before s a b lines more all is broken =
      subst (λ ls. BreakIn rules old s a b ls) (sym (ap with_crs is ∙ map-append with_cr lines more))
      (breaks_more s a b (with_crs lines) (with_crs more) broken)

-- ---- where lines are passed over

module _ {M : Type 0} (replies : LineReplies) (knows : M → List (List ℕ) → Type 0) (follows : RepliesBehind) (from : ℕ) where
  pub written_from : (number : ℕ) (line : List ℕ) (old new : M) (a b : Option (List ℕ)) (count : ℕ) → from ≤ number
      → IsWritten (rules_of replies knows follows) number line old new a b count
      → IsWritten (rules_from replies knows follows from) number line old new a b count
  written_from number line old new a b count on (here, (reply, known), appends) = (
    here,
    (answered_on replies from number line here count on reply, knows_on knows follows from number line old new here count on known),
    appends,
  )

  pub breaks_from : (number : ℕ) (line : List ℕ) (old : M) (a b : Option (List ℕ)) (s : Stop) → from ≤ number
      → BreaksIn (rules_of replies knows follows) number line old a b s → BreaksIn (rules_from replies knows follows from) number line old a b s
  breaks_from number line old a b stop.NoMemory on keeps = keeps
  breaks_from number line old a b stop.Unreadable on never = absurd never
  breaks_from number line old a b stop.Unwritable on (here, count, (reply, known), part) = (
    here,
    count,
    (answered_on replies from number line here count on reply, follows_on knows follows from number line old here count on known),
    part,
  )
  breaks_from number line old a b stop.NoReader on (here, count, (reply, known), part) = (
    here,
    count,
    (answered_on replies from number line here count on reply, follows_on knows follows from number line old here count on known),
    part,
  )

  pub passed_written : (number : ℕ) (line : List ℕ) (memory : M) (a : Option (List ℕ)) → number < from
      → ((lines : List (List ℕ)) → knows memory lines → knows memory (lines ++ [] ∷ []))
      → IsWritten (rules_from replies knows follows from) number line memory memory a a 0
  passed_written number line memory a early passes =
      ([], (passed_over replies from number line early, knows_passed knows follows from number line memory early passes), Appends-nil a)

  pub skips_from : ((number : ℕ) → replies number [] [] 0) → ((lines : List (List ℕ)) (number : ℕ) → follows lines number [] [] 0)
      → ((memory : M) (lines : List (List ℕ)) → knows memory lines → knows memory (lines ++ [] ∷ []))
      → SkipBlanks (rules_from replies knows follows from)
  skips_from replied followed known = record {
    replies = λ number. record { passed = λ _. (refl, refl); answered = λ _. replied number };
    follows = λ lines number. record { passed = λ _. (refl, refl); answered = λ _. followed (lines_from from lines) number };
    knows = λ memory lines before. pick memory lines before (cases_lt (length lines) (from - 1));
  }
    where
      pick : (memory : M) (lines : List (List ℕ)) → knows memory (lines_from from lines) → (length lines < from - 1) ⊎ (from - 1 ≤ length lines)
          → knows memory (lines_from from (lines ++ [] ∷ []))
      pick memory lines before (inl few) =
          subst (knows memory) (sym (first_pushed (from - 1) lines [] few)) (known memory (lines_from from lines) before)
      pick memory lines before (inr many) =
          subst (knows memory) (sym (later_pushed (from - 1) lines [] many)) (known memory (lines_from from lines) before)

-- ---- all lines of an input

module _ {M : Type 0} (rules : MailRules M) (old : M) where
  pub reply_whole : (new : M) (a b : Option (List ℕ)) (input : List ℕ) (refused : ℕ) → (w : AreWritten rules old new a b (lines_of input) refused)
      → IsReply rules.replies input w.text refused
  unfolding IsReply
  reply_whole new a b input refused w = w.replies

  pub follow_whole : (new : M) (a b : Option (List ℕ)) (input : List ℕ) (refused : ℕ) → (w : AreWritten rules old new a b (lines_of input) refused)
      → rules.knows old [] → IsReply (behind rules.follows (texts_of input)) input w.text refused × rules.knows new (texts_of input)
  unfolding IsReply
  follow_whole new a b input refused w known = w.follows known

  pub reply_first : (s : Stop) (a b : Option (List ℕ)) (input : List ℕ) → (broken : BreakIn rules old s a b (lines_of input))
      → IsReplyToFirst rules.replies input broken.text
  unfolding IsReplyToFirst
  reply_first s a b input broken = (
    length broken.done,
    broken.refused,
    subst (λ ls. IsReplyFrom rules.replies 1 ls broken.text broken.refused)
        (sym (ap (take (length broken.done)) broken.split ∙ take-append_seam broken.done broken.more)) broken.replies,
  )

  pub follow_first : (s : Stop) (a b : Option (List ℕ)) (input : List ℕ) → (broken : BreakIn rules old s a b (lines_of input))
      → rules.knows old [] → IsReplyToFirst (behind rules.follows (texts_of input)) input broken.text
  unfolding IsReplyToFirst
  follow_first s a b input broken known =
      let first : take (length broken.done) (lines_of input) ≡ broken.done =
      ap (take (length broken.done)) broken.split ∙ take-append_seam broken.done broken.more in
      let replies = behind_more rules.follows broken.done broken.more broken.text broken.refused (broken.follows known) in
      let those = subst (λ ls. IsReplyFrom (behind rules.follows (map without_cr ls)) 1 broken.done broken.text broken.refused) (sym broken.split) replies in (
        length broken.done,
        broken.refused,
        subst (λ ls. IsReplyFrom (behind rules.follows (texts_of input)) 1 ls broken.text broken.refused) (sym first) those,
      )
