-- What is counted of lines, one after the other.
use Rattle.std.proofs.Common.{◌≡◌, ◌≤◌, ◌<◌, ◌∙◌, ◌+◌, ◌-◌, ◌++◌, ◌⊎◌, ℕ, List, [], ◌∷◌, Option, None, ap, append-nil, append_assoc, arith, inl, inr, length, length-append, map, refl, subst, sym, true}
use Rattle.std.proofs.lemmas.Bool.{cases_lt}
use Rattle.std.proofs.lemmas.List.{length-map, map-append}
use Rattle.chess_notation.specs.Words.{is_blank}
use Rattle.text_lines.specs.Lines.{without_cr}
use Rattle.text_lines.specs.LinesFrom.{lines_from}
use Rattle.text_lines.proofs.PassedLines.{first_none, first_pushed, later_pushed}
use Rattle.parallel_answers.specs.inside.OpenReplies.{CountsOne, KnownFrom, MarksFrom, TallyKnown}

-- ---- marks of lines that are passed over, and of others

pub unmarked_before : {M : Type 0} (marks : List ℕ → Option M → Type 0) (from number : ℕ) (line : List ℕ) (mark : Option M) → number < from
    → mark ≡ None → MarksFrom marks from number line mark
unmarked_before marks from number line mark early none =
    record { passed = λ _. none; answered = λ on. absurd (omega (arith, early, on)) }

pub marked_on : {M : Type 0} (marks : List ℕ → Option M → Type 0) (from number : ℕ) (line : List ℕ) (mark : Option M) → from ≤ number
    → ∥ marks line mark ∥₁ → MarksFrom marks from number line mark
marked_on marks from number line mark on is = record { passed = λ early. absurd (omega (arith, early, on)); answered = λ _. is }

-- ---- one line

module _ {M Y : Type 0} (marks : List ℕ → Option M → Type 0) (knows : Y → List (List ℕ) → Type 0) (from number : ℕ) (line : List ℕ)
    (mark : Option M) (old new : Y) where
  -- What is counted of a line, wherever it stands, is counted of it behind lines of which the first are passed over.
  pub counted_from : ((line : List ℕ) → is_blank line ≡ true → marks line None)
      → ((before : List (List ℕ)) (l : List ℕ) → ∥ marks l mark ∥₁ → knows old before → knows new (before ++ l ∷ []))
      → MarksFrom marks from number (without_cr line) mark → CountsOne (KnownFrom knows from) number old new line
  counted_from unmarked counts is counted before many known = pick (cases_lt number from)
    where
      one : List ℕ
      one = without_cr line

      all : List (List ℕ)
      all = counted ++ lines_from from before

      pick : (number < from) ⊎ (from ≤ number) → KnownFrom knows from new counted (before ++ one ∷ [])
      pick (inl early) =
          let mark_of : ∥ marks [] mark ∥₁ = ∣ subst (marks []) (sym (is.passed early)) (unmarked [] refl) ∣₁ in
          let pushed : lines_from from (before ++ one ∷ []) ≡ lines_from from before ++ [] ∷ [] =
          first_pushed (from - 1) before one (omega (arith, many, early)) in
          subst (knows new) (append_assoc counted (lines_from from before) ([] ∷ []) ∙ ap (λ ls. counted ++ ls) (sym pushed))
          (counts all [] mark_of known)
      pick (inr on) =
          let pushed : lines_from from (before ++ one ∷ []) ≡ lines_from from before ++ one ∷ [] =
          later_pushed (from - 1) before one (omega (arith, many, on)) in
          subst (knows new) (append_assoc counted (lines_from from before) (one ∷ []) ∙ ap (λ ls. counted ++ ls) (sym pushed))
          (counts all one (is.answered on) known)

-- ---- before the first, and behind the last

pub known_first : {Y : Type 0} (knows : Y → List (List ℕ) → Type 0) (from : ℕ) (tally : Y) (before : List (List ℕ)) → knows tally before
    → KnownFrom knows from tally before []
known_first knows from tally before known =
    subst (knows tally) (sym (ap (λ ls. before ++ ls) (first_none (from - 1)) ∙ append-nil before)) known

module _ {Y : Type 0} (knows : TallyKnown Y) (counted before : List (List ℕ)) where
  pub none_counted : (tally : Y) → knows tally counted before → knows tally counted (before ++ [])
  none_counted tally known = subst (knows tally counted) (sym (append-nil before)) known

  -- These lines are counted behind those.
  pub counted_behind : (tally : Y) (done more : List (List ℕ)) → knows tally counted ((before ++ map without_cr done) ++ map without_cr more)
      → knows tally counted (before ++ map without_cr (done ++ more))
  counted_behind tally done more known =
      subst (knows tally counted)
      (append_assoc before (map without_cr done) (map without_cr more)
      ∙ ap (λ (ls : List (List ℕ)). before ++ ls) (sym (map-append without_cr done more)))
      known

pub counted_length : (before done : List (List ℕ)) (first : ℕ) → length before + 1 ≡ first
    → length (before ++ map without_cr done) + 1 ≡ first + length done
counted_length before done first is =
    omega (arith, is, length-append before (map without_cr done), length-map done without_cr)
