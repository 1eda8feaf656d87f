-- An input of which lines are taken, and the replies to them written and counted in order.
use Rattle.std.proofs.Common.{◌≡◌, ◌≤◌, ◌∙◌, ◌+◌, ◌++◌, ℕ, List, [], ◌∷◌, Option, ap, append-nil, append_assoc, arith, length, length-append, map, refl, subst, sym, take}
use Rattle.std.proofs.KnownBytes.{Appends-nil, Appends-trans}
use Rattle.std.proofs.Math.Seq.{take-append_seam}
use Rattle.std.specs.Io.KnownBytes.{Appends}
use Rattle.byte_streams.specs.Inputs.{MayBe}
use Rattle.byte_streams.specs.Stops.{AppendsBy, stop_of}
use Rattle.byte_streams.specs.declared.inputs.InputFault.{InputFault}
use Rattle.byte_streams.specs.declared.inputs.InputFault.TheVariants as fault
use Rattle.byte_streams.specs.declared.stops.Stop.{Stop}
use Rattle.byte_streams.specs.declared.stops.Stop.TheVariants as stop
use Rattle.std.proofs.lemmas.List.{length-map, map-append}
use Rattle.text_lines.specs.Lines.{lines_of, texts_of, without_cr}
use Rattle.text_lines.specs.Replies.{IsReply, IsReplyFrom, IsReplyToFirst, LineReplies}
use Rattle.text_lines.specs.TakenLines.{AreAllOf}
use Rattle.parallel_answers.specs.inside.OpenReplies.{AreOpen, Breaks, Gains, LineRules, TallyKnown}
use Rattle.parallel_answers.specs.declared.open_replies.OpenReplies.{OpenReplies}
use Rattle.parallel_answers.specs.declared.open_replies.OpenReply.{OpenReply}
use Rattle.parallel_answers.proofs.Gaining.{appends_behind, replies_append}

-- These lines were taken: the replies to the first of them are written and counted, and those to the others are open.
pub record Between {M Y : Type 0} (rules : LineRules M) (knows : TallyKnown Y) (lines : List (List ℕ)) (o : OpenReplies M) (tally counts : Y)
    (old new : Option (List ℕ)) : Type 0 where
  pub done : List (List ℕ)
  pub rest : List (List ℕ)
  pub text : List ℕ
  pub split : lines ≡ done ++ rest
  pub replies : IsReplyFrom rules.replies 1 done text o.refused
  pub left : AreOpen rules o.first o.replies.items rest
  pub first : o.first ≡ 1 + length done
  pub counted : (counted : List (List ℕ)) → knows tally counted [] → knows counts counted (map without_cr done)
  pub appends : Appends old new text

-- ---- where lines begin and stop

-- These are the first lines of the input.
abbrev pub BeginWith : Option (List ℕ) → List (List ℕ) → Type 0
BeginWith known lines = (bytes : List ℕ) × (more : List (List ℕ)) × MayBe known bytes × (lines_of bytes ≡ lines ++ more)

pub all_begin : (known : Option (List ℕ)) (lines : List (List ℕ)) → AreAllOf known lines → BeginWith known lines
unfolding AreAllOf
all_begin known lines (bytes, is, all) = (bytes, [], is, all ∙ sym (append-nil lines))

abbrev pub Stopped : LineReplies → Option (List ℕ) → Stop → (old new : Option (List ℕ)) → Type 0
Stopped R known s old new = (bytes : List ℕ) × (text : List ℕ) × MayBe known bytes × IsReplyToFirst R bytes text × AppendsBy s old new text

first_lines : (R : LineReplies) (bytes text : List ℕ) (done more : List (List ℕ)) (n : ℕ) → lines_of bytes ≡ done ++ more
    → IsReplyFrom R 1 done text n → IsReplyToFirst R bytes text
unfolding IsReplyToFirst
first_lines R bytes text done more n is replies =
    let front : take (length done) (lines_of bytes) ≡ done = ap (take (length done)) is ∙ take-append_seam done more in
    (length done, n, subst (λ ls. IsReplyFrom R 1 ls text n) (sym front) replies)

none_open : {M : Type 0} (rules : LineRules M) (number : ℕ) (lines : List (List ℕ)) → AreOpen rules number [] lines → lines ≡ []
none_open rules number [] left = refl
none_open rules number (l ∷ ls) left = absurd left

module _ {M Y : Type 0} (rules : LineRules M) (knows : TallyKnown Y) where
  pub between_none : (o : OpenReplies M) (k : Y) (old : Option (List ℕ)) → o.replies.items ≡ [] → o.first ≡ 1 → o.refused ≡ 0
      → Between rules knows [] o k k old old
  between_none o k old none first refused = record {
    done = [];
    rest = [];
    text = [];
    split = refl;
    replies = (refl, refused);
    left = rw none tt;
    first = omega (arith, first);
    counted = λ counted known. known;
    appends = Appends-nil old;
  }

  -- Replies more are written.
  pub between_gains : (lines : List (List ℕ)) (a b : OpenReplies M) (k l m : Y) (old mid new : Option (List ℕ)) (text : List ℕ)
      → Between rules knows lines a k l old mid → Gains rules knows a b l m text → Appends mid new text → Between rules knows lines b k m old new
  unfolding Gains
  between_gains lines a b k l m old mid new text so_far gains on =
      let g = gains so_far.rest so_far.left in
      let from = subst (λ k. IsReplyFrom rules.replies k g.done text g.count) so_far.first g.replies in
      record {
        done = so_far.done ++ g.done;
        rest = g.rest;
        text = so_far.text ++ text;
        split = so_far.split ∙ ap (λ (l : List (List ℕ)). so_far.done ++ l) g.split ∙ sym (append_assoc so_far.done g.done g.rest);
        replies = subst (IsReplyFrom rules.replies 1 (so_far.done ++ g.done) (so_far.text ++ text)) (sym g.refused)
            (replies_append rules.replies 1 so_far.done g.done so_far.text text a.refused g.count so_far.replies from);
        left = g.left;
        first = omega (arith, so_far.first, g.first, length-append so_far.done g.done);
        counted = λ counted known.
            subst (knows m counted) (sym (map-append without_cr so_far.done g.done))
            (g.counted counted (map without_cr so_far.done) (omega (arith, so_far.first, length-map so_far.done without_cr))
            (so_far.counted counted known));
        appends = Appends-trans old mid new so_far.text text so_far.appends on;
      }

  -- A line more is taken.
  pub between_line : (lines : List (List ℕ)) (line : List ℕ) (number : ℕ) (a b : OpenReplies M) (k l : Y)
      (old new : Option (List ℕ)) → Between rules knows lines a k l old new → length lines + 1 ≡ number → b.first ≡ a.first → b.refused ≡ a.refused
      → ((rest : List (List ℕ)) → a.first + length rest ≡ number → AreOpen rules a.first a.replies.items rest
      → AreOpen rules a.first b.replies.items (rest ++ line ∷ []))
      → Between rules knows (lines ++ line ∷ []) b k l old new
  between_line lines line number a b k l old new so_far next first refused opened = record {
    done = so_far.done;
    rest = so_far.rest ++ line ∷ [];
    text = so_far.text;
    split = ap (λ (l : List (List ℕ)). l ++ line ∷ []) so_far.split ∙ append_assoc so_far.done so_far.rest (line ∷ []);
    replies = subst (IsReplyFrom rules.replies 1 so_far.done so_far.text) (sym refused) so_far.replies;
    left = subst (λ n. AreOpen rules n b.replies.items (so_far.rest ++ line ∷ [])) (sym first)
        (opened so_far.rest
        (omega (arith, next, so_far.first, ap length so_far.split, length-append so_far.done so_far.rest)) so_far.left);
    first = first ∙ so_far.first;
    counted = so_far.counted;
    appends = so_far.appends;
  }

  -- ---- at the end

  pub whole : (known : Option (List ℕ)) (lines : List (List ℕ)) (o : OpenReplies M) (k l : Y) (old new : Option (List ℕ))
      → AreAllOf known lines → Between rules knows lines o k l old new → length o.replies.items ≤ 0
      → (bytes : List ℕ) × (text : List ℕ) × MayBe known bytes
      × (IsReply rules.replies bytes text o.refused × ((counted : List (List ℕ)) → knows k counted [] → knows l counted (texts_of bytes)))
      × Appends old new text
  unfolding AreAllOf IsReply
  whole known lines o k l old new (bytes, is, all) so_far none =
      let nothing : o.replies.items ≡ [] = empty o.replies.items (omega (arith, none)) in
      let rest : so_far.rest ≡ [] = none_open rules o.first so_far.rest (subst (λ l. AreOpen rules o.first l so_far.rest) nothing so_far.left) in
      let these : lines_of bytes ≡ so_far.done =
      all ∙ so_far.split ∙ ap (λ (l : List (List ℕ)). so_far.done ++ l) rest ∙ append-nil so_far.done in (
        bytes,
        so_far.text,
        is,
        (
          subst (λ ls. IsReplyFrom rules.replies 1 ls so_far.text o.refused) (sym these) so_far.replies,
          λ counted known. subst (λ ls. knows l counted (map without_cr ls)) (sym these) (so_far.counted counted known),
        ),
        so_far.appends,
      )
    where
      empty : (l : List (OpenReply M)) → length l ≡ 0 → l ≡ []
      empty [] none = refl
      empty (x ∷ xs) none = absurd (omega (arith, none))

  -- ---- where it stops

  pub stopped : (known : Option (List ℕ)) (lines : List (List ℕ)) (o : OpenReplies M) (s : Stop) (k l : Y) (old mid new : Option (List ℕ))
      → BeginWith known lines → Between rules knows lines o k l old mid → Breaks rules o s mid new → Stopped rules.replies known s old new
  unfolding Breaks
  stopped known lines o s k l old mid new (bytes, more, is, begin) so_far (here, on, first) =
      let (done, rest, count, split, replies) = first so_far.rest so_far.left in
      let from = subst (λ k. IsReplyFrom rules.replies k done here count) so_far.first replies in
      let all = so_far.done ++ done in
      let front : lines_of bytes ≡ all ++ (rest ++ more) =
      begin ∙ ap (λ (l : List (List ℕ)). l ++ more) so_far.split
      ∙ ap (λ (l : List (List ℕ)). (so_far.done ++ l) ++ more) split
      ∙ ap (λ (l : List (List ℕ)). l ++ more) (sym (append_assoc so_far.done done rest))
      ∙ append_assoc all rest more in (
        bytes,
        so_far.text ++ here,
        is,
        first_lines rules.replies bytes (so_far.text ++ here) all (rest ++ more) (o.refused + count) front
            (replies_append rules.replies 1 so_far.done done so_far.text here o.refused count so_far.replies from),
        appends_behind s old mid new so_far.text here so_far.appends on,
      )

  -- the same where nothing is written any more
  pub stopped_here : (known : Option (List ℕ)) (lines : List (List ℕ)) (o : OpenReplies M) (s : Stop) (k l : Y) (old new : Option (List ℕ))
      → BeginWith known lines → Between rules knows lines o k l old new → (AppendsBy s new new []) → Stopped rules.replies known s old new
  stopped_here known lines o s k l old new (bytes, more, is, begin) so_far none =
      let front : lines_of bytes ≡ so_far.done ++ (so_far.rest ++ more) =
      begin ∙ ap (λ (l : List (List ℕ)). l ++ more) so_far.split ∙ append_assoc so_far.done so_far.rest more in (
        bytes,
        so_far.text ++ [],
        is,
        first_lines rules.replies bytes (so_far.text ++ []) so_far.done (so_far.rest ++ more) o.refused front
            (subst (λ t. IsReplyFrom rules.replies 1 so_far.done t o.refused) (sym (append-nil so_far.text)) so_far.replies),
        appends_behind s old new new so_far.text [] so_far.appends none,
      )

  -- It stops where nothing is written: for want of memory, or since the input can't be read.
  pub stopped_by : (known : Option (List ℕ)) (lines : List (List ℕ)) (o : OpenReplies M) (s : Stop) (k l : Y) (old new : Option (List ℕ))
      → BeginWith known lines → Between rules knows lines o k l old new → s ≡ stop.NoMemory → Stopped rules.replies known s old new
  stopped_by known lines o s k l old new begin so_far is =
      stopped_here known lines o s k l old new begin so_far (rw is (Appends-nil new))

  pub never_read : (known : Option (List ℕ)) (lines : List (List ℕ)) (o : OpenReplies M) (f : InputFault) (k l : Y) (old new : Option (List ℕ))
      → BeginWith known lines → Between rules knows lines o k l old new → Stopped rules.replies known (stop_of f) old new
  never_read known lines o fault.Unreadable k l old new begin so_far =
      stopped_here known lines o stop.Unreadable k l old new begin so_far (Appends-nil new)
  never_read known lines o fault.NoMemory k l old new begin so_far =
      stopped_here known lines o stop.NoMemory k l old new begin so_far (Appends-nil new)

  pub gave_up : (known : Option (List ℕ)) (lines : List (List ℕ)) (o : OpenReplies M) (k l : Y) (old new : Option (List ℕ))
      → BeginWith known lines → Between rules knows lines o k l old new → Stopped rules.replies known stop.NoMemory old new
  gave_up known lines o k l old new begin so_far = stopped_by known lines o stop.NoMemory k l old new begin so_far refl
