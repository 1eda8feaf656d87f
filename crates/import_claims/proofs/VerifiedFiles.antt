-- What the rows of files are, and where they stop.
use Rattle.std.proofs.Common.{◌≡◌, ◌∙◌, Bor, ℕ, Bool, List, Option, sym, ap, subst, map, length, nat_lt}
use Rattle.std.proofs.lemmas.List.{length-map}
use Rattle.byte_streams.specs.declared.stops.Stop.{Stop}
use Rattle.byte_streams.specs.declared.stops.Stop.TheVariants as stop
use Rattle.file_answers.specs.FileAnswers.{Answers, StopsAnswering}
use Rattle.file_answers.specs.Sources.{HoldsEach}
use Rattle.file_answers.specs.Writing.{Gains}
use Rattle.file_answers.proofs.AnsweredFiles.{all_answered}
use Rattle.problem_import.specs.declared.import_letters.ImportLetters.{ImportLetters}
use Rattle.import_claims.specs.VerifiedImports.{ShowsRows, StopsRows, first_imported_replies, has_several, imported_replies}

-- Whether there are several names, their texts say too.
same_several : (names : List (Bor (List ℕ))) (several : Bool) → several ≡ nat_lt 1 (length names)
    → several ≡ has_several (map (λ s. s.now) names)
same_several names several is = is ∙ sym (ap (nat_lt 1) (length-map names (λ s. s.now)))

pub shows_each : (holds : List ℕ → Option (List ℕ)) (letters : ImportLetters) (default bound : Option ℕ) (from : ℕ) (names : List (Bor (List ℕ))) (several unsound : Bool)
    (old new : Option (List ℕ)) → default ≡ bound → several ≡ nat_lt 1 (length names)
    → Gains (Answers holds (imported_replies several letters default) from (map (λ s. s.now) names) unsound) old new
    → Gains (ShowsRows holds letters bound from (map (λ s. s.now) names) unsound) old new
shows_each holds letters default bound from names several unsound old new same is gains =
    let texts = map (λ (s : Bor (List ℕ)). s.now) names in
    subst (λ n. Gains (ShowsRows holds letters n from texts unsound) old new) same
    (subst (λ b. Gains (Answers holds (imported_replies b letters default) from texts unsound) old new) (same_several names several is) gains)

pub stops_between : (holds : List ℕ → Option (List ℕ)) (refuses : List ℕ → Type 0) (letters : ImportLetters)
    (default bound : Option ℕ) (from : ℕ) (names : List (Bor (List ℕ)))
    (several : Bool) (s : Stop) (old new : Option (List ℕ)) → default ≡ bound → several ≡ nat_lt 1 (length names)
    → StopsAnswering holds refuses (imported_replies several letters default) (first_imported_replies several letters default) from (map (λ s. s.now) names) s old new
    → StopsRows holds refuses letters bound from (map (λ s. s.now) names) s old new
stops_between holds refuses letters default bound from names several s old new same is stops =
    let texts = map (λ (s : Bor (List ℕ)). s.now) names in
    subst (λ n. StopsRows holds refuses letters n from texts s old new) same
    (subst (λ b. StopsAnswering holds refuses (imported_replies b letters default) (first_imported_replies b letters default) from texts s old new)
    (same_several names several is) stops)

pub stops_uncounted : HoldsEach → (holds : List ℕ → Option (List ℕ)) (refuses : List ℕ → Type 0) (letters : ImportLetters) (default bound : Option ℕ) (from : ℕ)
    (names : List (Bor (List ℕ))) (several unsound : Bool) (old new : Option (List ℕ)) → default ≡ bound → several ≡ nat_lt 1 (length names)
    → Gains (Answers holds (imported_replies several letters default) from (map (λ s. s.now) names) unsound) old new
    → StopsRows holds refuses letters bound from (map (λ s. s.now) names) stop.NoMemory old new
stops_uncounted each holds refuses letters default bound from names several unsound old new same is gains =
    let texts = map (λ (s : Bor (List ℕ)). s.now) names in
    let all : StopsAnswering holds refuses (imported_replies several letters default) (first_imported_replies several letters default) from texts stop.NoMemory old new =
    record {
      gained = gains.gained;
      shows = all_answered each holds (imported_replies several letters default) (first_imported_replies several letters default) from texts unsound gains.gained gains.shows;
      appends = gains.appends;
    } in
    stops_between holds refuses letters default bound from names several stop.NoMemory old new same is all
