-- What is answered by being printed is what `import` prints.
use Rattle.std.proofs.Common.{◌≡◌, ℕ, ◌+◌, nat_lt, lt-ltb, Bool, Option, Result, Ok, Err, IfErr, IfOk}
use Rattle.std.proofs.Common.{List, [], ◌∷◌, ◌++◌, refl, sym, ap, ◌∙◌, subst, append_assoc, arith}
use Rattle.std.specs.Io.KnownBytes.{Appends}
use Rattle.byte_streams.specs.Inputs.{MayBe}
use Rattle.byte_streams.specs.Stops.{AppendsBy}
use Rattle.byte_streams.specs.declared.stops.Stop.{Stop}
use Rattle.move_words.specs.declared.languages.Letters.{Letters}
use Rattle.mail_lines.specs.Mails.{mailed}
use Rattle.text_lines.specs.Lines.{lines_of, texts_of, without_cr}
use Rattle.text_lines.specs.Replies.{IsReply, IsReplyFrom, IsReplyToFirst}
use Rattle.problem_import.specs.Imported.{IsImported, IsImportedOfFirst}
use Rattle.problem_import.specs.Imports.{AreImported, IsImport, IsImportOfFirst, IsImportReply, IsMade, refused_line}
use Rattle.problem_import.specs.Imports.{none, printed as of_printed, read as is_read, refused as of_refused, skipped as is_skipped}
use Rattle.problem_import.specs.Problems.{AnswersFirstOf, AnswersFirstProblems, AnswersOf, AnswersProblems, AnswersSourced, AreAnswered, OfAnyKind}
use Rattle.problem_import.specs.Problems.{IsAnswered, IsProblemReply, no_problem, of_record, of_refusal, read, skipped}
use Rattle.problem_import.specs.Sources.{AreSourced}
use Rattle.problem_import.specs.declared.import_letters.ImportLetters.{ImportLetters}
use Rattle.problem_import.specs.inside.Answered.{prints_record, prints_refusal}

-- The answer is the lines.
printed_is : (P : List ℕ → Type 0) (lines text : List ℕ) (refusals : ℕ) → AreAnswered P prints_record prints_refusal lines text refusals
    → (text ≡ lines) × AreImported P lines (nat_lt 0 refusals)
printed_is P lines text refusals no_problem = (refl, none)
printed_is P lines text refusals (of_record number line here more rest count others is kind one on) =
    let (same, all) = printed_is P more rest others on in
    let few : others ≡ count + others = omega (arith, one.1) in (
      ap (λ t. here ++ t) same ∙ ap (λ t. t ++ more) one.0 ∙ append_assoc line (10 ∷ []) more,
      subst (λ k. AreImported P (line ++ 10 ∷ more) (nat_lt 0 k)) few (of_printed line more (nat_lt 0 others) is kind all),
    )
printed_is P lines text refusals (of_refusal number fault here more rest others one on) =
    let (same, all) = printed_is P more rest others on in (
      ap (λ t. here ++ t) same ∙ ap (λ t. t ++ more) one,
      subst (AreImported P (refused_line number fault ++ more)) (sym (lt-ltb 0 (1 + others) (omega arith)))
          (of_refused number fault more (nat_lt 0 others) all),
    )

module _ (K : Bool) (G : Option ℕ) where
  answer_printed : (line lines text : List ℕ) (any : Bool) → IsAnswered K G line prints_record prints_refusal lines text any
      → (text ≡ lines) × AreImported (IsMade K G line) text any
  answer_printed line lines text any (refusals, on, is) =
      let (same, all) = printed_is (IsMade K G line) lines text refusals on in
      (same, rw (same, is) all)

  reply_printed : (moves : Letters) (number : ℕ) (line text : List ℕ) (count : ℕ)
      → IsProblemReply moves K G prints_record prints_refusal number line text count → IsImportReply moves K G number line text count
  reply_printed moves number line text count (skipped blank) = is_skipped blank
  reply_printed moves number line text count (read lines text' any filled answered ends kept) =
      let (same, all) = answer_printed line lines text' any answered in
      is_read text' any filled all (λ plain clean. rw same (ends plain clean).0) (λ one. rw same (kept one))

  replies_printed : (moves : Letters) (number : ℕ) (lines : List (List ℕ)) (text : List ℕ) (count : ℕ)
      → IsReplyFrom (IsProblemReply moves K G prints_record prints_refusal) number lines text count
      → IsReplyFrom (IsImportReply moves K G) number lines text count
  replies_printed moves number [] text count nothing = nothing
  replies_printed moves number (line ∷ lines) text count (here, few, more, others, one, on, is, sum) = (
    here,
    few,
    more,
    others,
    reply_printed moves number (without_cr line) here few one,
    replies_printed moves (number + 1) lines more others on,
    is,
    sum,
  )

  import_printed : (moves : Letters) (input text : List ℕ) (count : ℕ) → AnswersProblems moves K G prints_record prints_refusal input text count
      → IsImport moves K G input text count
  unfolding AnswersProblems IsImport IsReply
  import_printed moves input text count (replies, refusals, printed, last, any, are, answered, is, sum) =
      (replies, refusals, last, any, replies_printed moves 1 (lines_of input) replies refusals are, (answer_printed [] printed last any answered).1, is, sum)

  first_printed : (moves : Letters) (input text : List ℕ) → AnswersFirstProblems moves K G prints_record prints_refusal input text
      → IsImportOfFirst moves K G input text
  unfolding AnswersFirstProblems IsImportOfFirst IsReplyToFirst
  first_printed moves input text (total, (replies, refusals, printed, last, any, (n, count, are), answered, is, sum)) = (
    replies,
    last,
    any,
    (n, count, replies_printed moves 1 _ replies count are),
    (answer_printed [] printed last any answered).1,
    is,
  )

  sourced_printed : (letters : Letters) (lines : List (List ℕ)) (text : List ℕ) → AnswersSourced letters G prints_record prints_refusal lines text
      → AreSourced letters G lines text
  unfolding AnswersSourced
  sourced_printed letters lines text (printed, refusals, sourced, on) =
      subst (AreSourced letters G lines) (sym (printed_is OfAnyKind printed text refusals on).0) sourced

  pub ok_printed : (letters : ImportLetters) (r : Result ℕ Stop) (known old new : Option (List ℕ))
      → IfOk r (λ count. (bytes : List ℕ) × (text : List ℕ) × MayBe known bytes × AnswersOf letters K G prints_record prints_refusal bytes text count
      × Appends old new text)
      → IfOk r (λ count. (bytes : List ℕ) × (text : List ℕ) × MayBe known bytes × IsImported letters K G bytes text count × Appends old new text)
  unfolding IsImported
  ok_printed letters (Ok count) known old new (bytes, text, may, (are, sourced), gained) = (
    bytes,
    text,
    may,
    (
      import_printed letters.moves (mailed letters.placements bytes) text count are,
      sourced_printed letters.placements (texts_of (mailed letters.placements bytes)) text sourced,
    ),
    gained,
  )
  ok_printed letters (Err s) known old new answered = tt

  pub err_printed : (letters : ImportLetters) (r : Result ℕ Stop) (known old new : Option (List ℕ))
      → IfErr r (λ s. (bytes : List ℕ) × (text : List ℕ) × MayBe known bytes × AnswersFirstOf letters K G prints_record prints_refusal bytes text
      × AppendsBy s old new text)
      → IfErr r (λ s. (bytes : List ℕ) × (text : List ℕ) × MayBe known bytes × IsImportedOfFirst letters K G bytes text × AppendsBy s old new text)
  unfolding IsImportedOfFirst
  err_printed letters (Ok count) known old new answered = tt
  err_printed letters (Err s) known old new (bytes, text, may, (are, sourced), gained) = (
    bytes,
    text,
    may,
    (
      first_printed letters.moves (mailed letters.placements bytes) text are,
      sourced_printed letters.placements (texts_of (mailed letters.placements bytes)) text sourced,
    ),
    gained,
  )
