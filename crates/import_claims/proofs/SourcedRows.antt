-- Rows are of records that are of their lines, where the lines before that of a number are passed over.
use Rattle.std.proofs.Common.{◌≡◌, ◌⊎◌, inl, inr, ◌≤◌, ◌+◌, ◌-◌, ℕ, zero, suc, Bool, false, List, [], ◌∷◌, ◌++◌, Option, Result, Ok, Err, IfErr, IfOk, ap, append_assoc, drop, length, map, take}
use Rattle.std.proofs.Common.{take-append-drop}
use Rattle.std.proofs.Common.{refl, sym, subst, ◌∙◌, arith}
use Rattle.std.proofs.KnownBytes.{Appends-trans}
use Rattle.std.proofs.lemmas.List.{append-nil, map-append}
use Rattle.std.specs.Io.KnownBytes.{Appends}
use Rattle.byte_streams.specs.Inputs.{MayBe}
use Rattle.byte_streams.specs.Stops.{AppendsBy}
use Rattle.byte_streams.specs.declared.stops.Stop.{Stop}
use Rattle.move_words.specs.declared.languages.Letters.{Letters}
use Rattle.mail_lines.specs.Mails.{mailed}
use Rattle.problem_import.specs.declared.import_letters.ImportLetters.{ImportLetters}
use Rattle.text_lines.specs.Lines.{lines_of, texts_of, without_cr}
use Rattle.text_lines.specs.Replies.{IsReplyFrom, LineReplies, behind}
use Rattle.text_lines.specs.LinesFrom.{IsReplyOn, IsReplyToFirstOn, lines_from, blanked_first}
use Rattle.problem_import.specs.Imports.{one_if}
use Rattle.problem_import.specs.Problems.{AnswersSourced, IsEnded, IsEndedFirst, IsProblemReply, RefusalRows, no_problem}
use Rattle.problem_import.specs.declared.reading.Reading.{Reading}
use Rattle.problem_import.specs.inside.Answered.{AnswersBehind, IsAnsweredFrom, IsLastCut, IsLastPut, IsReadOf}
use Rattle.problem_import.proofs.AnsweredSources.{first_answered, replies_of, whole_answered}
use Rattle.problem_import.proofs.Imports.{appends_more}
use Rattle.problem_import.proofs.Sources.{silent, sourced_all}
use Rattle.mate_claims.specs.ClaimReplies.{IsClaimReply}
use Rattle.import_claims.specs.ImportedRows.{IsRefusedRow}
use Rattle.import_claims.specs.VerifiedImports.{bound_or_three, first_imported_replies, imported_replies, prefix_of}
use Rattle.import_claims.proofs.FirstLines.{first_of_all}

abbrev Split : (n : ℕ) → (lines : List (List ℕ)) → Type 0
Split n lines = (front : List (List ℕ)) × (blanked_first n (map without_cr lines) ≡ front ++ map without_cr (drop n lines))
    × ((n ≡ length front) ⊎ (drop n lines ≡ []))

-- Lines behind others leave those as they are read.
append_on : (n : ℕ) (xs ys : List (List ℕ)) → (more : List (List ℕ)) × (blanked_first n (xs ++ ys) ≡ blanked_first n xs ++ more)
append_on zero xs ys = (ys, refl)
append_on (suc n) [] ys = (blanked_first (suc n) ys, refl)
append_on (suc n) (x ∷ xs) ys = let (more, is) = append_on n xs ys in (more, ap (λ ls. [] ∷ ls) is)

longer : (front : List (List ℕ)) (n : ℕ) (lines : List (List ℕ)) → (n ≡ length front) ⊎ (lines ≡ []) → (suc n ≡ length ([] ∷ front)) ⊎ (lines ≡ [])
longer front n lines (inl is) = inl (ap suc is)
longer front n lines (inr is) = inr is

split : (n : ℕ) (lines : List (List ℕ)) → Split n lines
split zero lines = ([], refl, inl refl)
split (suc n) [] = ([], refl, inr refl)
split (suc n) (line ∷ lines) =
    let (front, same, long) = split n lines in ([] ∷ front, ap (λ ls. [] ∷ ls) same, longer front n (drop n lines) long)

module _ (m : List ℕ → List ℕ) (moves letters : Letters) (K : Bool) (G : Option ℕ) (R : LineReplies) (Q : RefusalRows) where
  sourced_by : (from : ℕ) (all front lines : List (List ℕ)) (text : List ℕ) (count : ℕ) (last : List ℕ) → 1 ≤ from → all ≡ front ++ map without_cr lines
      → ((from - 1) ≡ length front) ⊎ (lines ≡ []) → IsReplyFrom (behind (AnswersBehind moves letters K G R Q) all) from lines text count
      → IsAnsweredFrom letters G (all ++ [] ∷ []) R Q last → AnswersSourced letters G R Q all (text ++ last)
  sourced_by from all front lines text count last some whole (inl long) replies ends =
      whole_answered K G R Q moves letters all front from lines text count last (omega (arith, some, long)) whole replies ends
  sourced_by from all front lines text count last some whole (inr none) replies ends =
      let F = behind (AnswersBehind moves letters K G R Q) all in
      whole_answered K G R Q moves letters all front (length front + 1) [] text count last refl (whole ∙ ap (λ ls. front ++ map without_cr ls) none)
      (subst (λ ls. IsReplyFrom F from ls text count) none replies) ends

  -- All lines of a file from that of a number on were answered, and its end.
  pub ended_sourced : (from : ℕ) → 1 ≤ from → (r : Result ℕ Stop) (count : ℕ) (reading : Reading) (known old middle new : Option (List ℕ))
      → (bytes : List ℕ) × (text : List ℕ) × MayBe known bytes
      × (IsReplyOn (behind (AnswersBehind moves letters K G R Q) (lines_from from (texts_of (m bytes)))) from (m bytes) text count
      × IsReadOf letters reading (lines_from from (texts_of (m bytes)))) × Appends old middle text
      → IfOk r (λ total. IsLastPut letters K G R Q reading count total middle new)
      → IfOk r (λ total. (bytes : List ℕ) × (text : List ℕ) × MayBe known bytes
      × (IsEnded K G R Q (IsReplyOn (IsProblemReply moves K G R Q) from (m bytes)) text total
      × AnswersSourced letters G R Q (lines_from from (texts_of (m bytes))) text) × Appends old new text)
  unfolding IsReplyOn
  ended_sourced from some (Ok total) count reading known old middle new (bytes, text, may, (replies, are_known), before)
      (last, any, (printed, answered, ends), is, behind_it) =
      let all : List (List ℕ) = lines_from from (texts_of (m bytes)) in
      let lines : List (List ℕ) = drop (from - 1) (lines_of (m bytes)) in
      let (front, whole, long) = split (from - 1) (lines_of (m bytes)) in (
        bytes,
        text ++ last,
        may,
        (
          (text, count, printed, last, any, replies_of K G R Q moves letters all from lines text count replies, answered, refl, is),
          sourced_by from all front lines text count last some whole long replies (ends all are_known),
        ),
        Appends-trans old middle new text last before behind_it,
      )
  ended_sourced from some (Err s) count reading known old middle new replied ended = tt

  -- ---- where that stops

  -- Nothing is answered to no line.
  pub none_sourced : (lines : List (List ℕ)) → AnswersSourced letters G R Q lines []
  unfolding AnswersSourced
  none_sourced lines = ([], 0, sourced_all letters G lines [] (silent letters G [] lines), no_problem)

  pub cut_sourced : (from : ℕ) → 1 ≤ from → (r : Result ℕ Stop) (count : ℕ) (reading : Reading) (known old middle new : Option (List ℕ))
      → (bytes : List ℕ) × (text : List ℕ) × MayBe known bytes
      × (IsReplyOn (behind (AnswersBehind moves letters K G R Q) (lines_from from (texts_of (m bytes)))) from (m bytes) text count
      × IsReadOf letters reading (lines_from from (texts_of (m bytes)))) × Appends old middle text
      → IfErr r (λ s. IsLastCut letters K G R Q reading s middle new)
      → IfErr r (λ s. (bytes : List ℕ) × (text : List ℕ) × MayBe known bytes
      × (IsEndedFirst K G R Q (IsReplyToFirstOn (IsProblemReply moves K G R Q) from (m bytes)) text
      × AnswersSourced letters G R Q (lines_from from (texts_of (m bytes))) text) × AppendsBy s old new text)
  unfolding IsReplyOn
  cut_sourced from some (Ok total) count reading known old middle new replied ended = tt
  cut_sourced from some (Err s) count reading known old middle new (bytes, text, may, (replies, are_known), before)
      (last, any, (printed, answered, ends), behind_it) =
      let all : List (List ℕ) = lines_from from (texts_of (m bytes)) in
      let lines : List (List ℕ) = drop (from - 1) (lines_of (m bytes)) in
      let (front, whole, long) = split (from - 1) (lines_of (m bytes)) in (
        bytes,
        text ++ last,
        may,
        (
          (
            0 + one_if any,
            (
              text,
              0,
              printed,
              last,
              any,
              first_of_all (IsProblemReply moves K G R Q) from (m bytes) text count (replies_of K G R Q moves letters all from lines text count replies),
              answered,
              refl,
              refl,
            ),
          ),
          sourced_by from all front lines text count last some whole long replies (ends all are_known),
        ),
        appends_more s old middle new text last before behind_it,
      )

  first_by : (from : ℕ) (all front lines more : List (List ℕ)) (text : List ℕ) (count : ℕ) → 1 ≤ from
      → all ≡ front ++ (map without_cr lines ++ more) → ((from - 1) ≡ length front) ⊎ (lines ≡ [])
      → IsReplyFrom (behind (AnswersBehind moves letters K G R Q) all) from lines text count → AnswersSourced letters G R Q all text
  first_by from all front lines more text count some whole (inl long) replies =
      first_answered K G R Q moves letters all front from lines more text count (omega (arith, some, long)) whole replies
  first_by from all front lines more text count some whole (inr none) replies =
      let F = behind (AnswersBehind moves letters K G R Q) all in
      let (is, nobody) = subst (λ ls. IsReplyFrom F from ls text count) none replies in
      subst (AnswersSourced letters G R Q all) (sym is) (none_sourced all)

  -- Of some of the first lines those behind the front are answered.
  first_sourced : (n from : ℕ) (lines : List (List ℕ)) (text : List ℕ) (count : ℕ) → 1 ≤ from
      → IsReplyFrom (behind (AnswersBehind moves letters K G R Q) (lines_from from (map without_cr lines))) from (drop (from - 1) (take n lines)) text
      count → AnswersSourced letters G R Q (lines_from from (map without_cr lines)) text
  first_sourced n from lines text count some replies =
      let own : List (List ℕ) = drop (from - 1) (take n lines) in
      let (front, whole, long) = split (from - 1) (take n lines) in
      let (more, on) = append_on (from - 1) (map without_cr (take n lines)) (map without_cr (drop n lines)) in
      let both : map without_cr lines ≡ map without_cr (take n lines) ++ map without_cr (drop n lines) =
      ap (map without_cr) (sym (take-append-drop n lines)) ∙ map-append without_cr (take n lines) (drop n lines) in
      first_by from (lines_from from (map without_cr lines)) front own more text count some
      (ap (blanked_first (from - 1)) both ∙ on ∙ ap (λ ls. ls ++ more) whole ∙ append_assoc front (map without_cr own) more) long replies

  -- Some of the first lines of a file were answered.
  pub broken_sourced : (from : ℕ) → 1 ≤ from → (s : Stop) (known old new : Option (List ℕ)) → (bytes : List ℕ) × (text : List ℕ) × MayBe known bytes
      × IsReplyToFirstOn (behind (AnswersBehind moves letters K G R Q) (lines_from from (texts_of (m bytes)))) from (m bytes) text × AppendsBy s old new text
      → (bytes : List ℕ) × (text : List ℕ) × MayBe known bytes
      × (IsEndedFirst K G R Q (IsReplyToFirstOn (IsProblemReply moves K G R Q) from (m bytes)) text
      × AnswersSourced letters G R Q (lines_from from (texts_of (m bytes))) text) × AppendsBy s old new text
  unfolding IsReplyToFirstOn
  broken_sourced from some s known old new (bytes, text, may, (n, count, replies), behind_it) =
      let lines : List (List ℕ) = lines_of (m bytes) in
      let first = replies_of K G R Q moves letters (lines_from from (texts_of (m bytes))) from (drop (from - 1) (take n lines)) text count replies in (
        bytes,
        text,
        may,
        (
          (0 + one_if false, (text, 0, [], [], false, (n, count, first), (0, no_problem, refl), sym (append-nil text), refl)),
          first_sourced n from lines text count some replies,
        ),
        behind_it,
      )

-- ---- as the rows of a file

module _ (several : Bool) (by letters : ImportLetters) (read : by ≡ letters) (keep : Bool) (plain : keep ≡ false) (bound given : Option ℕ)
    (name prefix : List ℕ) (default : ℕ) (prefixed : prefix ≡ prefix_of several name) (asked : default ≡ bound_or_three bound)
    (is : given ≡ bound) (from : ℕ) (bytes text : List ℕ) where
  abbrev Rows : ImportLetters → Option ℕ → List ℕ → ℕ → Type 0
  Rows l G p d = AnswersSourced l.placements G (IsClaimReply p d) (IsRefusedRow p) (lines_from from (texts_of (mailed l.placements bytes))) text

  abbrev pub All : Bool → ImportLetters → Option ℕ → List ℕ → ℕ → ℕ → Type 0
  All k l G p d count = IsEnded k G (IsClaimReply p d) (IsRefusedRow p)
      (IsReplyOn (IsProblemReply l.moves k G (IsClaimReply p d) (IsRefusedRow p)) from (mailed l.placements bytes)) text count × Rows l G p d

  abbrev pub Some : Bool → ImportLetters → Option ℕ → List ℕ → ℕ → Type 0
  Some k l G p d = IsEndedFirst k G (IsClaimReply p d) (IsRefusedRow p)
      (IsReplyToFirstOn (IsProblemReply l.moves k G (IsClaimReply p d) (IsRefusedRow p)) from (mailed l.placements bytes)) text × Rows l G p d

  pub rows_of : (count : ℕ) → All keep by given prefix default count → imported_replies several letters bound from name bytes text count
  rows_of count all =
      subst (λ l. All false l bound (prefix_of several name) (bound_or_three bound) count) read
      (subst (λ G. All false by G (prefix_of several name) (bound_or_three bound) count) is
      (subst (λ p. All false by given p (bound_or_three bound) count) prefixed
      (subst (λ d. All false by given prefix d count) asked (subst (λ k. All k by given prefix default count) plain all))))

  pub first_rows_of : Some keep by given prefix default → first_imported_replies several letters bound from name bytes text
  first_rows_of some =
      subst (λ l. Some false l bound (prefix_of several name) (bound_or_three bound)) read
      (subst (λ G. Some false by G (prefix_of several name) (bound_or_three bound)) is
      (subst (λ p. Some false by given p (bound_or_three bound)) prefixed
      (subst (λ d. Some false by given prefix d) asked (subst (λ k. Some k by given prefix default) plain some))))
