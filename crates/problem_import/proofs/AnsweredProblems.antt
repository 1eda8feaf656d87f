-- What is answered to problems: to records and refusals, one behind the other.
use Rattle.std.proofs.Common.{◌≡◌, ◌≢◌, ℕ, zero, suc, ◌+◌, ◌<◌, ◌≤◌, length, length-append, nat_lt, lt-ltb, Bool, true, false, ◌||◌, Option, Result, Ok, Err, IfOk}
use Rattle.std.proofs.Common.{List, [], ◌∷◌, ◌++◌, refl, sym, ap, ◌∙◌, subst, append_assoc, arith}
use Rattle.std.specs.Prelude.{codes, decimal}
use Rattle.std.proofs.Math.Seq.{take-length}
use Rattle.std.proofs.lemmas.List.{append-nil}
use Rattle.byte_streams.specs.Stops.{AppendsBy, AppendsPart, is_of_output}
use Rattle.byte_streams.specs.declared.stops.Stop.{Stop}
use Rattle.byte_streams.specs.declared.stops.Stop.TheVariants as stop
use Rattle.chess_notation.specs.Records.{max_line}
use Rattle.chess_notation.specs.Words.{is_blank}
use Rattle.move_words.specs.Languages.{is_english}
use Rattle.move_words.specs.declared.languages.Letters.{Letters}
use Rattle.text_lines.specs.Lines.{lines_of, without_cr}
use Rattle.text_lines.specs.Replies.{IsReply, IsReplyFrom, IsReplyToFirst, LineReplies}
use Rattle.problem_import.specs.declared.import_counts.ImportCounts.{ImportCounts}
use Rattle.problem_import.specs.declared.import_faults.ImportFault.{ImportFault}
use Rattle.problem_import.specs.declared.line_kinds.LineKind.{LineKind}
use Rattle.problem_import.specs.declared.line_kinds.LineKind.TheVariants as kinds
use Rattle.problem_import.specs.declared.problem_lines.Answers.{Answers}
use Rattle.problem_import.specs.Imports.{AreImported, IsClean, IsImport, IsImportReply, IsMade, IsRecord}
use Rattle.problem_import.specs.Imports.{import_fault_name, one_if, refused_line}
use Rattle.problem_import.specs.Imports.{none, printed as of_printed, read as is_read, refused as of_refused, skipped as is_skipped}
use Rattle.problem_import.specs.Problems.{AnswersImports, AnswersProblems, AreAnswered, EndsWith, IsAnswered, OfAnyKind}
use Rattle.problem_import.specs.Problems.{IsProblemReply, RefusalRows, no_problem, of_record, of_refusal, read, skipped}
use Rattle.problem_import.specs.inside.Answered.{AnswersTo, IsFound}
use Rattle.problem_import.specs.inside.Counted.{AreCounted, none as no_count}
use Rattle.problem_import.proofs.Imports.{filled_behind, record_kept, some_text}

module _ (K : Bool) (G : Option ℕ) (R : LineReplies) (Q : RefusalRows) where
  pub answered_as : (P : List ℕ → Type 0) (a b x y : List ℕ) (m n : ℕ) → a ≡ b → x ≡ y → m ≡ n → AreAnswered P R Q a x m → AreAnswered P R Q b y n
  answered_as P a b x y m n lines text count one =
      subst (λ t. AreAnswered P R Q t y n) lines (subst (λ t. AreAnswered P R Q a t n) text (subst (λ k. AreAnswered P R Q a x k) count one))

  pub answered_append : (P : List ℕ → Type 0) (a b x y : List ℕ) (m n : ℕ) → AreAnswered P R Q a x m → AreAnswered P R Q b y n
      → AreAnswered P R Q (a ++ b) (x ++ y) (m + n)
  answered_append P a b x y m n no_problem more = answered_as P b b y y n (0 + n) refl refl (omega arith) more
  answered_append P a b x y m n (of_record number line here lines text count refusals is kind one on) more =
      answered_as P (line ++ 10 ∷ (lines ++ b)) ((line ++ 10 ∷ lines) ++ b) (here ++ (text ++ y)) ((here ++ text) ++ y)
      (count + (refusals + n)) ((count + refusals) + n) (sym (append_assoc line (10 ∷ lines) b)) (sym (append_assoc here text y)) (omega arith)
      (of_record number line here (lines ++ b) (text ++ y) count (refusals + n) is kind one (answered_append P lines b text y refusals n on more))
  answered_append P a b x y m n (of_refusal number fault here lines text refusals one on) more =
      answered_as P (refused_line number fault ++ (lines ++ b)) ((refused_line number fault ++ lines) ++ b) (here ++ (text ++ y))
      ((here ++ text) ++ y) (1 + (refusals + n)) ((1 + refusals) + n) (sym (append_assoc (refused_line number fault) lines b))
      (sym (append_assoc here text y)) (omega arith)
      (of_refusal number fault here (lines ++ b) (text ++ y) (refusals + n) one (answered_append P lines b text y refusals n on more))

  -- Whatever the records are.
  answered_any : (P : List ℕ → Type 0) (lines text : List ℕ) (count : ℕ) → AreAnswered P R Q lines text count → AreAnswered OfAnyKind R Q lines text count
  answered_any P lines text count no_problem = no_problem
  answered_any P lines text count (of_record number line here more rest few others is kind one on) =
      of_record number line here more rest few others is tt one (answered_any P more rest others on)
  answered_any P lines text count (of_refusal number fault here more rest others one on) =
      of_refusal number fault here more rest others one (answered_any P more rest others on)

  -- The lines that are answered are such as `import` prints.
  imported_of : (P : List ℕ → Type 0) (lines text : List ℕ) (count : ℕ) → AreAnswered P R Q lines text count → (any : Bool) × AreImported P lines any
  imported_of P lines text count no_problem = (false, none)
  imported_of P lines text count (of_record number line here more rest few others is kind one on) =
      let (any, next) = imported_of P more rest others on in (any, of_printed line more any is kind next)
  imported_of P lines text count (of_refusal number fault here more rest others one on) =
      let (any, next) = imported_of P more rest others on in (true, of_refused number fault more any next)

  -- ---- one problem more

  any_more : (a : Bool) (m n : ℕ) → a ≡ nat_lt 0 m → (a || nat_lt 0 n) ≡ nat_lt 0 (m + n)
  any_more a zero n is = let same : n ≡ 0 + n = omega arith in rw is (ap (nat_lt 0) same)
  any_more a (suc m) n is = rw (is, lt-ltb 0 (suc m) (omega arith), lt-ltb 0 (suc m + n) (omega arith)) refl

  pub record_answered : (line lines made here text new : List ℕ) (number count : ℕ) (any after : Bool) → IsRecord made → IsMade K G line made
      → R number made here count → new ≡ text ++ here → after ≡ (any || nat_lt 0 count) → IsAnswered K G line R Q lines text any
      → IsAnswered K G line R Q (lines ++ made ++ 10 ∷ []) new after
  record_answered line lines made here text new number count any after is kind one same or (refusals, on, all) =
      let P : List ℕ → Type 0 = IsMade K G line in
      let last : AreAnswered P R Q (made ++ 10 ∷ []) (here ++ []) (count + 0) =
      of_record number made here [] [] count 0 is kind one no_problem in (
        refusals + (count + 0),
        answered_as P (lines ++ (made ++ 10 ∷ [])) (lines ++ made ++ 10 ∷ []) (text ++ (here ++ [])) new (refusals + (count + 0))
            (refusals + (count + 0)) (sym (append_assoc lines made (10 ∷ []))) (ap (λ t. text ++ t) (append-nil here) ∙ sym same) refl
            (answered_append P lines (made ++ 10 ∷ []) text (here ++ []) refusals (count + 0) on last),
        or ∙ any_more any refusals count all ∙ ap (λ k. nat_lt 0 (refusals + k)) (omega arith),
      )

  pub refusal_answered : (line lines here text new : List ℕ) (number : ℕ) (fault : ImportFault) (any after : Bool)
      → Q number fault here → new ≡ text ++ here → after ≡ (any || true) → IsAnswered K G line R Q lines text any
      → IsAnswered K G line R Q (lines ++ refused_line number fault) new after
  refusal_answered line lines here text new number fault any after one same or (refusals, on, all) =
      let P : List ℕ → Type 0 = IsMade K G line in
      let last : AreAnswered P R Q (refused_line number fault ++ []) (here ++ []) (1 + 0) =
      of_refusal number fault here [] [] 0 one no_problem in (
        refusals + (1 + 0),
        answered_as P (lines ++ (refused_line number fault ++ [])) (lines ++ refused_line number fault) (text ++ (here ++ [])) new
            (refusals + (1 + 0)) (refusals + (1 + 0)) (ap (λ t. lines ++ t) (append-nil (refused_line number fault)))
            (ap (λ t. text ++ t) (append-nil here) ∙ sym same) refl
            (answered_append P lines (refused_line number fault ++ []) text (here ++ []) refusals (1 + 0) on last),
        or ∙ any_more any refusals 1 all,
      )

  pub none_answered : (line text : List ℕ) (any : Bool) → text ≡ [] → any ≡ false → IsAnswered K G line R Q [] text any
  none_answered line text any is off = rw (is, off) (0, no_problem, refl)

  pub none_found : (line : List ℕ) (first : ImportCounts) (answers : Answers) → answers.text.items ≡ [] → answers.any ≡ false
      → answers.counts ≡ first → IsFound K G line R Q first 0 answers
  none_found line first answers is off same = (
    [],
    λ some. absurd (omega (arith, some)),
    (none_answered line answers.text.items answers.any is off, subst (AreCounted first []) (sym same) no_count),
  )

  -- More may have been found of a problem than that one is.
  pub found_more : (line : List ℕ) (first : ImportCounts) (answers : Answers) (count : ℕ) → IsFound K G line R Q first 1 answers
      → IsFound K G line R Q first count answers
  found_more line first answers count (lines, some, told) = (lines, λ _. some (omega arith), told)

  pub found_all : (line : List ℕ) (first : ImportCounts) (answers : Answers) (m n : ℕ) → n ≤ m → IsFound K G line R Q first m answers
      → IsFound K G line R Q first n answers
  found_all line first answers m n few (lines, some, told) = (lines, λ one. some (omega (arith, one, few)), told)

  pub found_record : {A E : Type 0} (r : Result A E) (old new : Answers) (line made : List ℕ) → IsMade K G line made
      → IfOk r (λ _. (line lines : List ℕ) (first : ImportCounts) → IsMade K G line made → AnswersTo K G line R Q first lines old
      → AnswersTo K G line R Q first (lines ++ made ++ 10 ∷ []) new)
      → IfOk r (λ _. (lines : List ℕ) (first : ImportCounts) → AnswersTo K G line R Q first lines old → IsFound K G line R Q first 1 new)
  found_record (Ok x) old new line made kind next = λ lines first told.
      (lines ++ made ++ 10 ∷ [], λ _. filled_behind lines made (lines ++ made ++ 10 ∷ []) refl, next line lines first kind told)
  found_record (Err e) old new line made kind next = tt

  refusal_filled : (lines : List ℕ) (number : ℕ) (fault : ImportFault) → 0 < length (lines ++ refused_line number fault)
  refusal_filled lines number fault =
      let front : List ℕ = codes "# line " ++ decimal number ++ codes ": " ++ import_fault_name fault in
      omega (arith, length-append lines (refused_line number fault), length-append front (10 ∷ []))

  pub found_refusal : {A E : Type 0} (r : Result A E) (old new : Answers) (line : List ℕ) (number : ℕ) (fault : ImportFault)
      → IfOk r (λ _. (line lines : List ℕ) (first : ImportCounts) → AnswersTo K G line R Q first lines old
      → AnswersTo K G line R Q first (lines ++ refused_line number fault) new)
      → IfOk r (λ _. (lines : List ℕ) (first : ImportCounts) → AnswersTo K G line R Q first lines old → IsFound K G line R Q first 1 new)
  found_refusal (Ok x) old new line number fault next = λ lines first told.
      (lines ++ refused_line number fault, λ _. refusal_filled lines number fault, next line lines first told)
  found_refusal (Err e) old new line number fault next = tt

  -- ---- what a line is answered

  clean_record : (line : List ℕ) → IsClean line → IsRecord line
  clean_record line (nothing, some) = (some.0, some.1)

  unclean : (kind : LineKind) (line : List ℕ) → (kind ≡ kinds.Other → ¬ (IsRecord line)) → (kind ≡ kinds.Mendable → ¬ (IsClean line))
      → kind ≢ kinds.Clean → ¬ (IsClean line)
  unclean kinds.Clean line other mendable not clean = not refl
  unclean kinds.Mendable line other mendable not clean = mendable refl clean
  unclean kinds.Other line other mendable not clean = other refl (clean_record line clean)

  pub other_reply : (moves : Letters) (kind : LineKind) (number : ℕ) (line : List ℕ) (first : ImportCounts) (answers : Answers) (found : ℕ)
      → is_blank line ≡ false → (kind ≡ kinds.Other → ¬ (IsRecord line)) → (kind ≡ kinds.Mendable → is_english moves ≡ true → ¬ (IsClean line))
      → kind ≢ kinds.Clean → (kind ≡ kinds.Mendable → 0 < found) → IsFound K G line R Q first found answers
      → IsProblemReply moves K G R Q number line answers.text.items (one_if answers.any)
  other_reply moves kind number line first answers found filled other mendable not some (lines, printed, told) =
      let no : is_english moves ≡ true → ¬ (IsClean line) = λ plain. unclean kind line other (λ is. mendable is plain) not in
      read lines answers.text.items answers.any filled told.0 (λ plain clean. absurd (no plain clean))
      (λ one. some_text lines (record_kept kind line lines lines other (λ is. printed (some is)) (λ more. more) (λ is. absurd (not is)) one))

  pub clean_reply : (moves : Letters) (number : ℕ) (line : List ℕ) (first : ImportCounts) (old answers : Answers) (found : ℕ)
      → is_blank line ≡ false → IsFound K G line R Q first found old
      → ((lines : List ℕ) → AnswersTo K G line R Q first lines old → AnswersTo K G line R Q first (lines ++ line ++ 10 ∷ []) answers)
      → EndsWith (R number line) answers.text.items → IsProblemReply moves K G R Q number line answers.text.items (one_if answers.any)
  clean_reply moves number line first old answers found filled (lines, printed, told) next ends =
      read (lines ++ line ++ 10 ∷ []) answers.text.items answers.any filled (next lines told).0 (λ plain clean. ((lines, refl), ends))
      (λ is. some_text (lines ++ line ++ 10 ∷ []) (filled_behind lines line (lines ++ line ++ 10 ∷ []) refl))

  pub long_answers : (moves : Letters) (number : ℕ) (text out : List ℕ) (any : Bool) (count : ℕ)
      → ((line : List ℕ) → (lines : List ℕ) × IsAnswered K G line R Q lines text any) → out ≡ text → count ≡ one_if any
      → (line : List ℕ) → is_blank line ≡ false → max_line < length line → IsProblemReply moves K G R Q number line out count
  long_answers moves number text out any count answered same is line filled long =
      let no_record : IsRecord line → ⊥ = λ one. omega (arith, one.1.short, long) in
      let (lines, on) = answered line in
      rw (same, is) (read lines text any filled on (λ plain clean. absurd (no_record (clean_record line clean))) (λ one. absurd (no_record one)))

  -- ---- where it ends or stops

  pub first_of_all : (moves : Letters) (bytes text : List ℕ) (n : ℕ) → IsReply (IsProblemReply moves K G R Q) bytes text n
      → IsReplyToFirst (IsProblemReply moves K G R Q) bytes text
  unfolding IsReply IsReplyToFirst
  first_of_all moves bytes text n replies = (
    length (lines_of bytes),
    n,
    subst (λ lines. IsReplyFrom (IsProblemReply moves K G R Q) 1 lines text n) (sym (take-length (lines_of bytes))) replies,
  )

  pub by_part : (s : Stop) (text : List ℕ) (old new : Option (List ℕ)) → is_of_output s ≡ true → AppendsPart old new text → AppendsBy s old new text
  by_part stop.NoMemory text old new output part = let no : false ≡ true = output in cc
  by_part stop.Unreadable text old new output part = let no : false ≡ true = output in cc
  by_part stop.Unwritable text old new output part = part
  by_part stop.NoReader text old new output part = part

  -- ---- what is answered is answered to what `import` may print

  one_import : (moves : Letters) (number : ℕ) (line text : List ℕ) (count : ℕ) → IsProblemReply moves K G R Q number line text count
      → (lines : List ℕ) × (refused : ℕ) × (refusals : ℕ) × IsImportReply moves K G number line lines refused
      × AreAnswered OfAnyKind R Q lines text refusals
  one_import moves number line text count (skipped blank) = ([], 0, 0, is_skipped blank, no_problem)
  one_import moves number line text count (read lines text' any filled answered ends kept) =
      let (any', on) = imported_of (IsMade K G line) lines text' answered.0 answered.1 in (
        lines,
        one_if any',
        answered.0,
        is_read lines any' filled on (λ plain clean. (ends plain clean).0) kept,
        answered_any (IsMade K G line) lines text' answered.0 answered.1,
      )

  replies_import : (moves : Letters) (number : ℕ) (lines : List (List ℕ)) (text : List ℕ) (count : ℕ) → IsReplyFrom (IsProblemReply moves K G R Q) number lines text count
      → (printed : List ℕ) × (refused : ℕ) × (refusals : ℕ) × IsReplyFrom (IsImportReply moves K G) number lines printed refused
      × AreAnswered OfAnyKind R Q printed text refusals
  replies_import moves number [] text count (is, nobody) = rw is ([], 0, 0, (refl, refl), no_problem)
  replies_import moves number (line ∷ lines) text count (here, few, more, others, one, on, is, all) =
      let (p, r, k, imports, answered) = one_import moves number (without_cr line) here few one in
      let (ps, rs, ks, next, rest) = replies_import moves (number + 1) lines more others on in
      rw is (p ++ ps, r + rs, k + ks, (p, r, ps, rs, imports, next, refl, refl), answered_append OfAnyKind p ps here more k ks answered rest)

  pub answers_import : AnswersImports K G R Q
  unfolding AnswersProblems IsImport IsReply
  answers_import moves input text count (replies, refusals, printed, last, any, are, answered, is, all) =
      let (p, r, k, imports, first) = replies_import moves 1 (lines_of input) replies refusals are in
      let (any', on) = imported_of (IsMade K G []) printed last answered.0 answered.1 in
      rw is (
        p ++ printed,
        r + one_if any',
        k + answered.0,
        (p, r, printed, any', imports, on, refl, refl),
        answered_append OfAnyKind p printed replies last k answered.0 first (answered_any (IsMade K G []) printed last answered.0
            answered.1),
      )
