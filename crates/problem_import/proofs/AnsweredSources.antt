-- What is answered is answered to records that are of their lines, and to refusals.
use Rattle.std.proofs.Common.{◌≡◌, ℕ, ◌+◌, ◌-◌, length, length-append, drop, take, take-append-drop, map, Bool, false, true, Option, Result, Ok, Err, IfErr, IfOk}
use Rattle.std.proofs.Common.{List, [], ◌∷◌, ◌++◌, refl, sym, ap, ◌∙◌, subst, append_assoc, arith}
use Rattle.std.proofs.KnownBytes.{Appends-nil, Appends-trans}
use Rattle.std.proofs.lemmas.List.{append-nil, map-append}
use Rattle.std.specs.Io.KnownBytes.{Appends}
use Rattle.byte_streams.specs.Inputs.{MayBe}
use Rattle.byte_streams.specs.Stops.{AppendsBy}
use Rattle.byte_streams.specs.declared.stops.Stop.{Stop}
use Rattle.byte_streams.specs.declared.stops.Stop.TheVariants as stop
use Rattle.move_words.specs.declared.languages.Letters.{Letters}
use Rattle.text_lines.specs.Lines.{lines_of, texts_of, without_cr}
use Rattle.text_lines.specs.Replies.{IsReply, IsReplyFrom, IsReplyToFirst, LineReplies, behind}
use Rattle.problem_import.specs.Imports.{IsRecord, none, one_if, printed as of_printed, refused as of_refused, refused_line}
use Rattle.problem_import.specs.Problems.{AnswersFirstProblems, AnswersProblems, AnswersSourced, AreAnswered, IsProblemReply, OfAnyKind, RefusalRows, no_problem, of_record, of_refusal}
use Rattle.problem_import.specs.Sources.{AreSourcedFrom, at_end, at_line}
use Rattle.problem_import.specs.declared.findings.Finding.{Finding}
use Rattle.problem_import.specs.declared.import_counts.ImportCounts.{ImportCounts}
use Rattle.problem_import.specs.declared.problem_lines.Answers.{Answers}
use Rattle.problem_import.specs.declared.import_faults.ImportFault.{ImportFault}
use Rattle.problem_import.specs.declared.reading.Reading.{Reading}
use Rattle.problem_import.specs.inside.Answered.{AnswersBehind, IsAnsweredFrom, IsFound, IsLast, IsLastCut, IsLastPut, IsReadOf}
use Rattle.problem_import.specs.inside.KnownSources.{AreFrom, IsMadeFrom}
use Rattle.problem_import.proofs.AnsweredProblems.{answered_append, answered_as, first_of_all}
use Rattle.problem_import.proofs.Imports.{appends_more, imported_append}
use Rattle.problem_import.proofs.Sources.{are_sourced, silent, sourced_all, taken_front}

module _ (K : Bool) (G : Option ℕ) (R : LineReplies) (Q : RefusalRows) where
  pub no_answer : (letters : Letters) (lines : List (List ℕ)) (text : List ℕ) → text ≡ [] → IsAnsweredFrom letters G lines R Q text
  no_answer letters lines text is = rw is ([], false, 0, none, no_problem)

  pub record_from : (letters : Letters) (lines : List (List ℕ)) (made here text new : List ℕ) (number count : ℕ) → IsRecord made
      → IsMadeFrom letters G lines made → R number made here count → new ≡ text ++ here → IsAnsweredFrom letters G lines R Q text
      → IsAnsweredFrom letters G lines R Q new
  record_from letters lines made here text new number count is from one same (printed, any, refusals, imported, answered) =
      let last : AreAnswered OfAnyKind R Q (made ++ 10 ∷ []) (here ++ []) (count + 0) = of_record number made here [] [] count 0 is tt one no_problem in (
        printed ++ (made ++ 10 ∷ []),
        _,
        refusals + (count + 0),
        imported_append (IsMadeFrom letters G lines) printed (made ++ 10 ∷ []) any false imported (of_printed made [] false is from none),
        answered_as K G R Q OfAnyKind (printed ++ (made ++ 10 ∷ [])) (printed ++ (made ++ 10 ∷ [])) (text ++ (here ++ [])) new (refusals + (count + 0))
            (refusals + (count + 0)) refl (ap (λ t. text ++ t) (append-nil here) ∙ sym same) refl
            (answered_append K G R Q OfAnyKind printed (made ++ 10 ∷ []) text (here ++ []) refusals (count + 0) answered last),
      )

  pub refusal_from : (letters : Letters) (lines : List (List ℕ)) (here text new : List ℕ) (number : ℕ) (fault : ImportFault) → Q number fault here
      → new ≡ text ++ here → IsAnsweredFrom letters G lines R Q text → IsAnsweredFrom letters G lines R Q new
  refusal_from letters lines here text new number fault one same (printed, any, refusals, imported, answered) =
      let row : List ℕ = refused_line number fault in
      let last : AreAnswered OfAnyKind R Q (row ++ []) (here ++ []) (1 + 0) = of_refusal number fault here [] [] 0 one no_problem in (
        printed ++ (row ++ []),
        _,
        refusals + (1 + 0),
        imported_append (IsMadeFrom letters G lines) printed (row ++ []) any true imported (of_refused number fault [] false none),
        answered_as K G R Q OfAnyKind (printed ++ (row ++ [])) (printed ++ (row ++ [])) (text ++ (here ++ [])) new (refusals + (1 + 0))
            (refusals + (1 + 0)) refl (ap (λ t. text ++ t) (append-nil here) ∙ sym same) refl
            (answered_append K G R Q OfAnyKind printed (row ++ []) text (here ++ []) refusals (1 + 0) answered last),
      )

  -- What is found at the end of lines is of them.
  pub last_if : {E : Type 0} (letters : Letters) (reading : Reading) (r : Result Answers E) (first : ImportCounts) (findings : List Finding)
      → ((lines : List (List ℕ)) → IsReadOf letters reading lines → AreFrom letters (lines ++ [] ∷ []) findings)
      → IfOk r (λ a. IsFound K G [] R Q first (length findings) a)
      → IfOk r (λ a. (letters : Letters) (lines : List (List ℕ)) → AreFrom letters lines findings → IsAnsweredFrom letters G lines R Q a.text.items)
      → IfOk r (λ a. IsLast letters K G R Q reading a.text.items a.any)
  last_if letters reading (Ok a) first findings known (printed, some, told) from =
      (printed, told.0, λ lines read. from letters (lines ++ [] ∷ []) (known lines read))
  last_if letters reading (Err e) first findings known found from = tt

  -- ---- lines

  answers_from : (moves letters : Letters) (all front : List (List ℕ)) (number before : ℕ) (lines more : List (List ℕ)) (text : List ℕ) (count : ℕ)
      → before ≡ length front → number ≡ before + 1 → all ≡ front ++ (map without_cr lines ++ more)
      → IsReplyFrom (behind (AnswersBehind moves letters K G R Q) all) number lines text count
      → (printed : List ℕ) × (refusals : ℕ) × AreAnswered OfAnyKind R Q printed text refusals
      × ((rest : List ℕ) → AreSourcedFrom letters G (front ++ map without_cr lines) more rest
      → AreSourcedFrom letters G front (map without_cr lines ++ more) (printed ++ rest))
  answers_from moves letters all front number before [] more text count long next whole (is, nobody) = rw is (
    [],
    0,
    no_problem,
    λ rest on. subst (λ ls. AreSourcedFrom letters G ls more rest) (append-nil front) on,
  )
  answers_from moves letters all front number before (line ∷ lines) more text count long next whole (here, few, after, others, one, on, is, sum) =
      let own : List ℕ = without_cr line in
      let ls : List (List ℕ) = map without_cr lines in
      let counted : number - 1 ≡ length front = omega (arith, long, next) in
      let taken : take (number - 1) all ≡ front =
      ap (λ n. take n all) counted ∙ ap (λ l. take (length front) l) whole ∙ taken_front front (own ∷ (ls ++ more)) in
      let up_to : all ≡ (front ++ own ∷ []) ++ (ls ++ more) = whole ∙ sym (append_assoc front (own ∷ []) (ls ++ more)) in
      let (p, any, k, imported, answered) = subst (λ b. IsAnsweredFrom letters G (b ++ own ∷ []) R Q here) taken one.1 in
      let (ps, ks, rest_answered, sourced) = answers_from moves letters all (front ++ own ∷ []) (number + 1) number lines more after others
      (omega (arith, long, next, length-append front (own ∷ []))) refl up_to on in
      rw is (
        p ++ ps,
        k + ks,
        answered_append K G R Q OfAnyKind p ps here after k ks answered rest_answered,
        λ rest on.
            let next_front : (front ++ own ∷ []) ++ ls ≡ front ++ own ∷ ls = append_assoc front (own ∷ []) ls in
            subst (AreSourcedFrom letters G front (own ∷ (ls ++ more))) (sym (append_assoc p ps rest))
            (at_line front (ls ++ more) own p (ps ++ rest) any (are_sourced letters G (front ++ own ∷ []) p any imported)
            (sourced rest (subst (λ b. AreSourcedFrom letters G b more rest) (sym next_front) on))),
      )

  -- Nothing may be printed of lines.
  pub passed_front : (letters : Letters) (done front rest : List (List ℕ)) (text : List ℕ) → AreSourcedFrom letters G (done ++ front) rest text
      → AreSourcedFrom letters G done (front ++ rest) text
  passed_front letters done [] rest text on = subst (λ b. AreSourcedFrom letters G b rest text) (append-nil done) on
  passed_front letters done (line ∷ front) rest text on =
      at_line done (front ++ rest) line [] text false none
      (passed_front letters (done ++ line ∷ []) front rest text (subst (λ b. AreSourcedFrom letters G b rest text)
      (sym (append_assoc done (line ∷ []) front)) on))

  -- All lines behind such were answered, and then the end.
  pub whole_answered : (moves letters : Letters) (all front : List (List ℕ)) (number : ℕ) (lines : List (List ℕ)) (text : List ℕ) (count : ℕ) (last : List ℕ)
      → number ≡ length front + 1 → all ≡ front ++ map without_cr lines → IsReplyFrom (behind (AnswersBehind moves letters K G R Q) all) number lines text count
      → IsAnsweredFrom letters G (all ++ [] ∷ []) R Q last → AnswersSourced letters G R Q all (text ++ last)
  unfolding AnswersSourced
  whole_answered moves letters all front number lines text count last long whole replies (p, any, k, imported, answered) =
      let ls : List (List ℕ) = map without_cr lines in
      let up_to : all ≡ front ++ (ls ++ []) = whole ∙ ap (λ l. front ++ l) (sym (append-nil ls)) in
      let (ps, ks, first, sourced) = answers_from moves letters all front number (length front) lines [] text count refl long up_to replies in
      let ended : AreSourcedFrom letters G (front ++ ls) [] p = subst (λ b. AreSourcedFrom letters G b [] p) whole
      (at_end all p any (are_sourced letters G (all ++ [] ∷ []) p any imported)) in (
        ps ++ p,
        ks + k,
        sourced_all letters G all (ps ++ p) (subst (λ b. AreSourcedFrom letters G [] b (ps ++ p)) (sym up_to)
            (passed_front letters [] front (ls ++ []) (ps ++ p) (sourced p ended))),
        answered_append K G R Q OfAnyKind ps p text last ks k first answered,
      )

  -- Some of the first lines behind such were answered, and nothing of those behind them.
  pub first_answered : (moves letters : Letters) (all front : List (List ℕ)) (number : ℕ) (lines : List (List ℕ)) (more : List (List ℕ)) (text : List ℕ)
      (count : ℕ) → number ≡ length front + 1 → all ≡ front ++ (map without_cr lines ++ more)
      → IsReplyFrom (behind (AnswersBehind moves letters K G R Q) all) number lines text count → AnswersSourced letters G R Q all text
  unfolding AnswersSourced
  first_answered moves letters all front number lines more text count long whole replies =
      let ls : List (List ℕ) = map without_cr lines in
      let (ps, ks, first, sourced) = answers_from moves letters all front number (length front) lines more text count refl long whole replies in (
        ps ++ [],
        ks,
        sourced_all letters G all (ps ++ []) (subst (λ b. AreSourcedFrom letters G [] b (ps ++ [])) (sym whole)
            (passed_front letters [] front (ls ++ more) (ps ++ []) (sourced [] (silent letters G (front ++ ls) more)))),
        answered_as K G R Q OfAnyKind ps (ps ++ []) text text ks ks (sym (append-nil ps)) refl refl first,
      )

  -- Each is what the line may be answered.
  pub replies_of : (moves letters : Letters) (all : List (List ℕ)) (number : ℕ) (lines : List (List ℕ)) (text : List ℕ) (count : ℕ)
      → IsReplyFrom (behind (AnswersBehind moves letters K G R Q) all) number lines text count → IsReplyFrom (IsProblemReply moves K G R Q) number lines text count
  replies_of moves letters all number [] text count nothing = nothing
  replies_of moves letters all number (line ∷ lines) text count (here, few, more, others, one, on, is, sum) =
      (here, few, more, others, one.0, replies_of moves letters all (number + 1) lines more others on, is, sum)

  -- What the lines of an input were answered, and its end, as `m` reads them.
  abbrev Ended : (m : List ℕ → List ℕ) (moves letters : Letters) → (input text : List ℕ) → ℕ → Type 0
  Ended m moves letters input text total = AnswersProblems moves K G R Q (m input) text total × AnswersSourced letters G R Q (texts_of (m input)) text

  abbrev Stopped : (m : List ℕ → List ℕ) (moves letters : Letters) → (input text : List ℕ) → Type 0
  Stopped m moves letters input text = AnswersFirstProblems moves K G R Q (m input) text × AnswersSourced letters G R Q (texts_of (m input)) text

  abbrev Replied : (m : List ℕ → List ℕ) (moves letters : Letters) (count : ℕ) (reading : Reading) (known old middle : Option (List ℕ)) → Type 0
  Replied m moves letters count reading known old middle = (bytes : List ℕ) × (text : List ℕ) × MayBe known bytes
      × (IsReply (behind (AnswersBehind moves letters K G R Q) (texts_of (m bytes))) (m bytes) text count × IsReadOf letters reading (texts_of (m bytes)))
      × Appends old middle text

  pub whole_if : (m : List ℕ → List ℕ) (moves letters : Letters) (r : Result ℕ Stop) (count : ℕ) (reading : Reading) (known old middle new : Option (List ℕ))
      → Replied m moves letters count reading known old middle → IfOk r (λ total. IsLastPut letters K G R Q reading count total middle new)
      → IfOk r (λ total. (bytes : List ℕ) × (text : List ℕ) × MayBe known bytes × Ended m moves letters bytes text total × Appends old new text)
  unfolding IsReply AnswersProblems
  whole_if m moves letters (Ok total) count reading known old middle new (bytes, text, may, (replies, are_known), before)
      (last, any, (printed, answered, ends), is, behind_it) =
      let all : List (List ℕ) = texts_of (m bytes) in (
        bytes,
        text ++ last,
        may,
        (
          (text, count, printed, last, any, replies_of moves letters all 1 (lines_of (m bytes)) text count replies, answered, refl, is),
          whole_answered moves letters all [] 1 (lines_of (m bytes)) text count last refl refl replies (ends all are_known),
        ),
        Appends-trans old middle new text last before behind_it,
      )
  whole_if m moves letters (Err s) count reading known old middle new replied ended = tt

  pub none_cut : (letters : Letters) (reading : Reading) (old : Option (List ℕ)) → IsLastCut letters K G R Q reading stop.NoMemory old old
  none_cut letters reading old =
      ([], false, ([], (0, no_problem, refl), (λ lines known. no_answer letters (lines ++ [] ∷ []) [] refl)), Appends-nil old)

  -- So it is where the end breaks off, and where a line does.
  pub cut_if : (m : List ℕ → List ℕ) (moves letters : Letters) (r : Result ℕ Stop) (count : ℕ) (reading : Reading) (known old middle new : Option (List ℕ))
      → Replied m moves letters count reading known old middle → IfErr r (λ s. IsLastCut letters K G R Q reading s middle new)
      → IfErr r (λ s. (bytes : List ℕ) × (text : List ℕ) × MayBe known bytes × Stopped m moves letters bytes text × AppendsBy s old new text)
  unfolding IsReply AnswersFirstProblems
  cut_if m moves letters (Ok total) count reading known old middle new replied ended = tt
  cut_if m moves letters (Err s) count reading known old middle new (bytes, text, may, (replies, are_known), before)
      (last, any, (printed, answered, ends), behind_it) =
      let all : List (List ℕ) = texts_of (m bytes) in (
        bytes,
        text ++ last,
        may,
        (
          (
            0 + one_if any,
            (
              text,
              0,
              printed,
              last,
              any,
              first_of_all K G R Q moves (m bytes) text count (replies_of moves letters all 1 (lines_of (m bytes)) text count replies),
              answered,
              refl,
              refl,
            ),
          ),
          whole_answered moves letters all [] 1 (lines_of (m bytes)) text count last refl refl replies (ends all are_known),
        ),
        appends_more s old middle new text last before behind_it,
      )

  pub broken_off : (m : List ℕ → List ℕ) (moves letters : Letters) (s : Stop) (known old new : Option (List ℕ)) → (bytes : List ℕ) × (text : List ℕ) × MayBe known bytes
      × IsReplyToFirst (behind (AnswersBehind moves letters K G R Q) (texts_of (m bytes))) (m bytes) text × AppendsBy s old new text
      → (bytes : List ℕ) × (text : List ℕ) × MayBe known bytes × Stopped m moves letters bytes text × AppendsBy s old new text
  unfolding IsReplyToFirst AnswersFirstProblems
  broken_off m moves letters s known old new (bytes, text, may, (n, count, replies), behind_it) =
      let lines : List (List ℕ) = lines_of (m bytes) in
      let all : List (List ℕ) = texts_of (m bytes) in
      let more : List (List ℕ) = map without_cr (drop n lines) in
      let whole : all ≡ map without_cr (take n lines) ++ more =
      ap (map without_cr) (sym (take-append-drop n lines)) ∙ map-append without_cr (take n lines) (drop n lines) in (
        bytes,
        text,
        may,
        (
          (
            0 + one_if false,
            (
              text,
              0,
              [],
              [],
              false,
              (n, count, replies_of moves letters all 1 (take n lines) text count replies),
              (0, no_problem, refl),
              sym (append-nil text),
              refl,
            ),
          ),
          first_answered moves letters all [] 1 (take n lines) more text count refl whole replies,
        ),
        behind_it,
      )
