-- What rows show, and where they stop: by whether there are several names, which their texts say too.
use Rattle.std.proofs.Common.{◌≡◌, ◌∙◌, Bor, ℕ, Bool, List, Option, sym, ap, subst, map, length, nat_lt}
use Rattle.std.specs.Bool.{⊤}
use Rattle.std.proofs.lemmas.List.{length-map}
use Rattle.byte_streams.specs.declared.stops.Stop.{Stop}
use Rattle.byte_streams.specs.declared.stops.Stop.TheVariants as stop
use Rattle.file_answers.specs.FileAnswers.{Answers, AnswersFirst, AnswersTold, FileReplies, FileTold, FirstReplies, StopsAnswering}
use Rattle.file_answers.specs.Sources.{HoldsEach}
use Rattle.file_answers.specs.Writing.{Gains}
use Rattle.file_answers.proofs.AnsweredFiles.{all_answered}
use Rattle.file_verifying.specs.Verified.{has_several}

abbrev pub texts_of : List (Bor (List ℕ)) → List (List ℕ)
texts_of names = map (λ s. s.now) names

same_several : (names : List (Bor (List ℕ))) (several : Bool) → several ≡ nat_lt 1 (length names) → several ≡ has_several (texts_of names)
same_several names several is = is ∙ sym (ap (nat_lt 1) (length-map names (λ s. s.now)))

pub verifies_each : (holds : List ℕ → Option (List ℕ)) (Replies : Bool → FileReplies) (from : ℕ) (names : List (Bor (List ℕ)))
    (several unsound : Bool) (old new : Option (List ℕ)) → several ≡ nat_lt 1 (length names)
    → Gains (Answers holds (Replies several) from (texts_of names) unsound) old new
    → Gains (Answers holds (Replies (has_several (texts_of names))) from (texts_of names) unsound) old new
verifies_each holds Replies from names several unsound old new is gains =
    subst (λ b. Gains (Answers holds (Replies b) from (texts_of names) unsound) old new) (same_several names several is) gains

pub told_each : (holds : List ℕ → Option (List ℕ)) (Told : Bool → FileTold) (from : ℕ) (names : List (Bor (List ℕ)))
    (several unsound : Bool) (marks : ℕ) (old new : Option (List ℕ)) → several ≡ nat_lt 1 (length names)
    → Gains (AnswersTold holds (Told several) from (texts_of names) unsound marks) old new
    → Gains (AnswersTold holds (Told (has_several (texts_of names))) from (texts_of names) unsound marks) old new
told_each holds Told from names several unsound marks old new is gains =
    subst (λ b. Gains (AnswersTold holds (Told b) from (texts_of names) unsound marks) old new) (same_several names several is) gains

pub stops_between : (holds : List ℕ → Option (List ℕ)) (refuses : List ℕ → Type 0) (Replies : Bool → FileReplies)
    (First : Bool → FirstReplies) (from : ℕ) (names : List (Bor (List ℕ)))
    (several : Bool) (s : Stop) (old new : Option (List ℕ)) → several ≡ nat_lt 1 (length names)
    → StopsAnswering holds refuses (Replies several) (First several) from (texts_of names) s old new
    → StopsAnswering holds refuses (Replies (has_several (texts_of names))) (First (has_several (texts_of names))) from (texts_of names) s old new
stops_between holds refuses Replies First from names several s old new is stops =
    subst (λ b. StopsAnswering holds refuses (Replies b) (First b) from (texts_of names) s old new) (same_several names several is) stops

pub stops_uncounted : HoldsEach → (holds : List ℕ → Option (List ℕ)) (refuses : List ℕ → Type 0) (Replies : Bool → FileReplies)
    (First : Bool → FirstReplies) (from : ℕ) (names : List (Bor (List ℕ))) (several unsound : Bool) (old new : Option (List ℕ))
    → several ≡ nat_lt 1 (length names) → Gains (Answers holds (Replies several) from (texts_of names) unsound) old new
    → StopsAnswering holds refuses (Replies (has_several (texts_of names))) (First (has_several (texts_of names))) from (texts_of names)
    stop.NoMemory old new
stops_uncounted each holds refuses Replies First from names several unsound old new is gains =
    let texts = texts_of names in
    subst (λ b. Gains (AnswersFirst holds (Replies b) (First b) from texts (λ _. ⊤)) old new) (same_several names several is) (record {
      gained = gains.gained;
      shows = all_answered each holds (Replies several) (First several) from texts unsound gains.gained gains.shows;
      appends = gains.appends;
    })
