-- A file more of what is shown, and where that stops.
use Rattle.std.proofs.Common.{◌≡◌, ◌∙◌, ◌+◌, ◌-◌, ◌++◌, ◌||◌, ◌<◌, ◌≤◌, Bor, ℕ, zero, suc, Bool, false, List, [], ◌∷◌, Option, refl, sym}
use Rattle.std.proofs.Common.{ap, subst, arith, lt-ltb, map, take, drop, length, nat_lt, append_assoc, slice_index_or}
use Rattle.std.specs.Bool.{⊤}
use Rattle.std.proofs.lemmas.List.{append-nil, take_all}
use Rattle.std.proofs.KnownBytes.{Appends-trans}
use Rattle.std.proofs.Math.Seq.{drop-append_seam, take-append_seam}
use Rattle.std.specs.Io.KnownBytes.{Appends}
use Rattle.byte_streams.specs.Inputs.{MayBe}
use Rattle.byte_streams.specs.Stops.{AppendsBy}
use Rattle.byte_streams.specs.declared.stops.Stop.{Stop}
use Rattle.byte_streams.specs.declared.stops.Stop.TheVariants as stop
use Rattle.file_answers.specs.Sources.{Holds, HoldsEach, HoldsMore}
use Rattle.file_answers.specs.FileAnswers.{Answers, AnswersFirst, AnswersTold, AreReplies, AreTold, FileReplies, FileTold, FirstRefused}
use Rattle.file_answers.specs.FileAnswers.{FirstReplies, IsReplyIn, StopsAnswering, from_behind}
use Rattle.file_answers.proofs.HeldFiles.{names_next, names_split}
use Rattle.file_answers.proofs.Parts.{part_behind}

pub refused_more : (a b : Bool) (m n : ℕ) → a ≡ nat_lt 0 m → b ≡ nat_lt 0 n → (a || b) ≡ nat_lt 0 (m + n)
refused_more a b zero n first second = let same : n ≡ 0 + n = omega arith in rw (first, second) (ap (nat_lt 0) same)
refused_more a b (suc m) n first second = rw (first, second, lt-ltb 0 (suc m) (omega arith), lt-ltb 0 (suc m + n) (omega arith)) refl

-- Behind a file all are whole.
whole_behind : (inputs : List (List ℕ)) → from_behind 1 inputs ≡ 1
whole_behind [] = refl
whole_behind (x ∷ xs) = refl

pub whole_next : (from : ℕ) (inputs : List (List ℕ)) (input : List ℕ) → from_behind from (inputs ++ input ∷ []) ≡ 1
whole_next from [] input = refl
whole_next from (x ∷ xs) input = refl

told_more : (T : FileTold) (from : ℕ) (names inputs : List (List ℕ)) (name input text here : List ℕ) (count few marks other : ℕ)
    → AreTold T from names inputs text count marks → T (from_behind from inputs) name input here few other
    → AreTold T from (names ++ name ∷ []) (inputs ++ input ∷ []) (text ++ here) (count + few) (marks + other)
told_more T from [] [] name input text here count few marks other (none, nobody, unmarked) reply =
    (here, few, other, [], 0, 0, reply, (refl, refl, refl), rw none (sym (append-nil here)), omega (arith, nobody), omega (arith, unmarked))
told_more T from [] (x ∷ xs) name input text here count few marks other so_far reply = absurd so_far
told_more T from (n ∷ ns) [] name input text here count few marks other so_far reply = absurd so_far
told_more T from (n ∷ ns) (x ∷ xs) name input text here count few marks other (first, k, f, rest, m, g, is_first, is_rest, whole, total, all) reply = (
  first,
  k,
  f,
  rest ++ here,
  m + few,
  g + other,
  is_first,
  told_more T 1 ns xs name input rest here m few g other is_rest (subst (λ at. T at name input here few other) (sym (whole_behind xs)) reply),
  ap (λ t. t ++ here) whole ∙ append_assoc first rest here,
  omega (arith, total),
  omega (arith, all),
)

-- What is told of files says what they are answered.
abbrev pub Tells : FileTold → FileReplies → Type 0
Tells T R = (from : ℕ) (name input text : List ℕ) (refusals marks : ℕ) → T from name input text refusals marks → R from name input text refusals

told_replies : (T : FileTold) (R : FileReplies) → Tells T R → (from : ℕ) (names inputs : List (List ℕ)) (text : List ℕ) (count marks : ℕ)
    → AreTold T from names inputs text count marks → AreReplies R from names inputs text count
told_replies T R tells from [] [] text count marks (none, nobody, unmarked) = (none, nobody)
told_replies T R tells from [] (x ∷ xs) text count marks told = absurd told
told_replies T R tells from (n ∷ ns) [] text count marks told = absurd told
told_replies T R tells from (n ∷ ns) (x ∷ xs) text count marks (first, k, f, rest, m, g, is_first, is_rest, whole, total, all) =
    (first, k, rest, m, tells from n x first k f is_first, told_replies T R tells 1 ns xs rest m g is_rest, whole, total)

pub answers_told : (T : FileTold) (R : FileReplies) → Tells T R → (holds : List ℕ → Option (List ℕ)) (from : ℕ) (names : List (List ℕ))
    (refused : Bool) (marks : ℕ) (gained : List ℕ) → AnswersTold holds T from names refused marks gained → Answers holds R from names refused gained
answers_told T R tells holds from names refused marks gained told = record {
  inputs = told.inputs;
  refusals = told.refusals;
  given = told.given;
  are_replies = told_replies T R tells from names told.inputs gained told.refusals marks told.are_told;
  refusal = told.refusal;
}

answers_more : HoldsMore → (holds : List ℕ → Option (List ℕ)) (T : FileTold) (from : ℕ) (names : List (List ℕ)) (name : List ℕ)
    (a b : Bool) (marks other : ℕ) (gained input here : List ℕ) (few : ℕ)
    → (so_far : AnswersTold holds T from names a marks gained) → MayBe (holds name) input
    → T (from_behind from so_far.inputs) name input here few other → b ≡ nat_lt 0 few
    → AnswersTold holds T from (names ++ name ∷ []) (a || b) (marks + other) (gained ++ here)
answers_more more holds T from names name a b marks other gained input here few so_far held reply refusal = record {
  inputs = so_far.inputs ++ input ∷ [];
  refusals = so_far.refusals + few;
  given = more holds names so_far.inputs name input so_far.given held;
  are_told = told_more T from names so_far.inputs name input gained here so_far.refusals few marks other so_far.are_told reply;
  refusal = refused_more a b so_far.refusals few so_far.refusal refusal;
}

-- So many files are answered, and the next is to be from the line of a number on.
pub record AnsweredTo (holds : List ℕ → Option (List ℕ)) (T : FileTold) (from : ℕ) (names : List (List ℕ)) (at : ℕ)
    (refused : Bool) (marks : ℕ) (gained : List ℕ) : Type 0 where
  pub so_far : AnswersTold holds T from names refused marks gained
  pub next : at ≡ from_behind from so_far.inputs

answered_more : HoldsMore → (holds : List ℕ → Option (List ℕ)) (T : FileTold) (from : ℕ) (names : List (List ℕ))
    (name : List ℕ) (at : ℕ) (a b : Bool) (marks other : ℕ) (gained input here : List ℕ) (few : ℕ)
    → AnsweredTo holds T from names at a marks gained → MayBe (holds name) input → T at name input here few other → b ≡ nat_lt 0 few
    → AnsweredTo holds T from (names ++ name ∷ []) 1 (a || b) (marks + other) (gained ++ here)
unfolding answers_more
answered_more more holds T from names name at a b marks other gained input here few answered held reply refusal = record {
  so_far = answers_more more holds T from names name a b marks other gained input here few answered.so_far held
      (subst (λ n. T n name input here few other) answered.next reply) refusal;
  next = sym (whole_next from answered.so_far.inputs input);
}

-- Before the first file.
pub answered_none : (holds : List ℕ → Option (List ℕ)) (T : FileTold) (from marks : ℕ) → AnsweredTo holds T from [] from false (marks - marks) []
answered_none holds T from marks = record {
  so_far =
      record { inputs = []; refusals = 0; given = tt; are_told = (refl, refl, omega arith); refusal = refl };
  next = refl;
}

-- One name more of those that are taken is answered: there were `a` marks first, `b` before it, and there are `c` behind it.
pub answers_next : HoldsMore → (holds : List ℕ → Option (List ℕ)) (T : FileTold) (from : ℕ) (names : List (Bor (List ℕ)))
    (i : ℕ) (d : Bor (List ℕ)) (at : ℕ) (refused here_refused : Bool) (a b c : ℕ) (gained input here : List ℕ) (few : ℕ)
    → i < length names → a ≤ b → b ≤ c → AnsweredTo holds T from (map (λ s. s.now) (take i names)) at refused (b - a) gained
    → MayBe (holds (slice_index_or names i d).now) input
    → T at (slice_index_or names i d).now input here few (c - b) → here_refused ≡ nat_lt 0 few
    → AnsweredTo holds T from (map (λ s. s.now) (take (i + 1) names)) 1 (refused || here_refused) (c - a) (gained ++ here)
answers_next joined holds T from names i d at refused here_refused a b c gained input here few within first second so_far held reply refusal =
    let more = answered_more joined holds T from (map (λ s. s.now) (take i names))
    (slice_index_or names i d).now at refused here_refused (b - a) (c - b) gained input here few so_far held reply refusal in
    let all = subst (λ n. AnsweredTo holds T from (map (λ s. s.now) (take i names) ++ (slice_index_or names i d).now ∷ []) 1
    (refused || here_refused) n (gained ++ here)) (omega (arith, first, second)) more in
    rw (names_next names i d within) all

-- All names are answered: what is told of the files.
pub all_so_far : (T : FileTold) (holds : List ℕ → Option (List ℕ)) (from : ℕ) (names : List (Bor (List ℕ))) (i at : ℕ) (refused : Bool) (marks : ℕ)
    (gained : List ℕ) → length names ≤ i → AnsweredTo holds T from (map (λ s. s.now) (take i names)) at refused marks gained
    → AnswersTold holds T from (map (λ s. s.now) names) refused marks gained
all_so_far T holds from names i at refused marks gained past answered =
    let whole = ap (map (λ (s : Bor (List ℕ)). s.now)) (take_all i names past) in
    subst (λ ns. AnswersTold holds T from ns refused marks gained) whole answered.so_far

-- What the files are answered.
pub all_told : (T : FileTold) (R : FileReplies) → Tells T R → (holds : List ℕ → Option (List ℕ)) (from : ℕ) (names : List (Bor (List ℕ))) (i : ℕ)
    (at : ℕ) (refused : Bool) (marks : ℕ) (gained : List ℕ) → length names ≤ i
    → AnsweredTo holds T from (map (λ s. s.now) (take i names)) at refused marks gained
    → Answers holds R from (map (λ s. s.now) names) refused gained
all_told T R tells holds from names i at refused marks gained past answered =
    answers_told T R tells holds from (map (λ s. s.now) names) refused marks gained
    (all_so_far T holds from names i at refused marks gained past answered)

-- ---- where it stops

-- What is so far, as what the files are answered.
record StandsAt (holds : List ℕ → Option (List ℕ)) (R : FileReplies) (from : ℕ) (names : List (List ℕ)) (at : ℕ)
    (refused : Bool) (gained : List ℕ) : Type 0 where
  pub so_far : Answers holds R from names refused gained
  pub next : at ≡ from_behind from so_far.inputs

stands_at : (T : FileTold) (R : FileReplies) → Tells T R → (holds : List ℕ → Option (List ℕ)) (from : ℕ) (names : List (List ℕ)) (at : ℕ)
    (refused : Bool) (marks : ℕ) (gained : List ℕ) → AnsweredTo holds T from names at refused marks gained → StandsAt holds R from names at refused gained
unfolding answers_told
stands_at T R tells holds from names at refused marks gained answered = record {
  so_far = answers_told T R tells holds from names refused marks gained answered.so_far;
  next = answered.next;
}

answers_first : HoldsEach
    → (holds : List ℕ → Option (List ℕ)) (R : FileReplies) (P : FirstReplies) (from : ℕ) (front : List (List ℕ)) (name : List ℕ)
    (back : List (List ℕ)) (at : ℕ) (a : Bool) (Ends_at : List (List ℕ) → Type 0) (gained input part : List ℕ)
    → StandsAt holds R from front at a gained → MayBe (holds name) input → P at name input part → Ends_at (name ∷ back)
    → AnswersFirst holds R P from (front ++ name ∷ back) Ends_at (gained ++ part)
answers_first each holds R P from front name back at a Ends_at gained input part answered held reply ends =
    let so_far = answered.so_far in
    let count = each holds front so_far.inputs so_far.given in
    let taken : take (length so_far.inputs) (front ++ name ∷ back) ≡ front =
    ap (λ n. take n (front ++ name ∷ back)) count ∙ take-append_seam front (name ∷ back) in
    let left : drop (length so_far.inputs) (front ++ name ∷ back) ≡ name ∷ back =
    ap (λ n. drop n (front ++ name ∷ back)) count ∙ drop-append_seam front (name ∷ back) in
    record {
      inputs = so_far.inputs;
      whole = gained;
      refusals = so_far.refusals;
      part = part;
      given = subst (λ names. Holds holds names so_far.inputs) (sym taken) so_far.given;
      are_replies = subst (λ names. AreReplies R from names so_far.inputs gained so_far.refusals) (sym taken) so_far.are_replies;
      next = subst (λ names. IsReplyIn holds P (from_behind from so_far.inputs) names part) (sym left)
          (input, held, subst (λ n. P n name input part) answered.next reply);
      text_is = refl;
      stops = subst Ends_at (sym left) ends;
    }

stops_at : HoldsEach → (holds : List ℕ → Option (List ℕ)) (refuses : List ℕ → Type 0) (R : FileReplies) (P : FirstReplies)
    (from : ℕ) (front : List (List ℕ)) (name : List ℕ) (back : List (List ℕ)) (at : ℕ) (a : Bool)
    (s : Stop) (old mid new : Option (List ℕ))
    (gained input part : List ℕ) → StandsAt holds R from front at a gained → Appends old mid gained
    → MayBe (holds name) input → P at name input part
    → AppendsBy s mid new part → (s ≡ stop.Unreadable → refuses name) → StopsAnswering holds refuses R P from (front ++ name ∷ back) s old new
stops_at each holds refuses R P from front name back at a stop.NoMemory old mid new gained input part so_far before held reply appends may =
    record {
      gained = gained ++ part;
      shows = answers_first each holds R P from front name back at a
          (λ _. ⊤) gained input part so_far held reply tt;
      appends = Appends-trans old mid new gained part before appends;
    }
stops_at each holds refuses R P from front name back at a stop.Unreadable old mid new gained input part so_far
    before held reply appends may = record {
      gained = gained ++ part;
      shows = answers_first each holds R P from front name back at a (FirstRefused refuses) gained input part so_far held reply (may refl);
      appends = Appends-trans old mid new gained part before appends;
    }
stops_at each holds refuses R P from front name back at a stop.Unwritable old mid new gained input part so_far before held reply appends may =
    record {
      whole = gained ++ part;
      shows = answers_first each holds R P from front name back at a
          (λ _. ⊤) gained input part so_far held reply tt;
      appends = part_behind old mid new gained part before appends;
    }
stops_at each holds refuses R P from front name back at a stop.NoReader old mid new gained input part so_far before held reply appends may =
    record {
      whole = gained ++ part;
      shows = answers_first each holds R P from front name back at a
          (λ _. ⊤) gained input part so_far held reply tt;
      appends = part_behind old mid new gained part before appends;
    }

-- It stops at the file of this index.
pub stops_there : HoldsEach
    → (holds : List ℕ → Option (List ℕ)) (refuses : List ℕ → Type 0) (T : FileTold) (R : FileReplies) (P : FirstReplies) → Tells T R → (from : ℕ)
    (names : List (Bor (List ℕ))) (i : ℕ) (d : Bor (List ℕ)) (at : ℕ) (a : Bool) (marks : ℕ) (s : Stop) (old mid new : Option (List ℕ))
    (gained input part : List ℕ) → i < length names → AnsweredTo holds T from (map (λ s. s.now) (take i names)) at a marks gained
    → Appends old mid gained → MayBe (holds (slice_index_or names i d).now) input
    → P at (slice_index_or names i d).now input part → AppendsBy s mid new part → (s ≡ stop.Unreadable → refuses (slice_index_or names i d).now)
    → StopsAnswering holds refuses R P from (map (λ s. s.now) names) s old new
stops_there each holds refuses T R P tells from names i d at a marks s old mid new gained input part within so_far before held reply appends may =
    rw (names_split names i d within)
    (stops_at each holds refuses R P from (map (λ s. s.now) (take i names)) (slice_index_or names i d).now
    (map (λ s. s.now) (drop (i + 1) names)) at a s old mid new gained input part
    (stands_at T R tells holds from (map (λ s. s.now) (take i names)) at a marks gained so_far) before held reply appends may)

-- All files are answered, and it stops behind them.
pub all_answered : HoldsEach → (holds : List ℕ → Option (List ℕ)) (R : FileReplies) (P : FirstReplies) (from : ℕ)
    (names : List (List ℕ)) (a : Bool) (gained : List ℕ) → Answers holds R from names a gained
    → AnswersFirst holds R P from names (λ _. ⊤) gained
all_answered each holds R P from names a gained all =
    let count = each holds names all.inputs all.given in
    let taken : take (length all.inputs) names ≡ names =
    ap (λ n. take n names) count ∙ (ap (take (length names)) (sym (append-nil names)) ∙ take-append_seam names []) in
    let left : drop (length all.inputs) names ≡ [] =
    ap (λ n. drop n names) count ∙ (ap (drop (length names)) (sym (append-nil names)) ∙ drop-append_seam names []) in
    record {
      inputs = all.inputs;
      whole = gained;
      refusals = all.refusals;
      part = [];
      given = subst (λ names. Holds holds names all.inputs) (sym taken) all.given;
      are_replies = subst (λ names. AreReplies R from names all.inputs gained all.refusals) (sym taken) all.are_replies;
      next = subst (λ names. IsReplyIn holds P (from_behind from all.inputs) names []) (sym left) refl;
      text_is = sym (append-nil gained);
      stops = tt;
    }
