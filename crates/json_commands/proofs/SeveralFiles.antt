-- Files that are answered in JSON, by whether there are several.
use Rattle.std.proofs.Common.{◌≡◌, ℕ, Bool, List, Option, Result, IfErr, IfOk, subst}
use Rattle.std.specs.Bool.{⊤}
use Rattle.byte_streams.specs.declared.stops.Stop.{Stop}
use Rattle.byte_streams.specs.declared.stops.Stop.TheVariants as stop
use Rattle.file_answers.specs.FileAnswers.{Answers, AnswersFirst, AnswersTold, StopsAnswering}
use Rattle.file_answers.specs.Sources.{HoldsEach}
use Rattle.file_answers.specs.Writing.{Gains}
use Rattle.file_answers.proofs.AnsweredFiles.{all_answered}
use Rattle.json_replies.specs.declared.replies.Form.{Form}
use Rattle.text_lines.specs.Replies.{LineReplies}
use Rattle.json_commands.specs.JsonFiles.{AnswersJson, StopsJson, file_replies, file_told, first_file_replies, has_several}

module _ (holds : List ℕ → Option (List ℕ)) (refuses : List ℕ → Type 0) (form : Form) (replies : LineReplies) (from : ℕ)
    (names : List (List ℕ)) (several : Bool) (old new : Option (List ℕ)) where
  pub answers_each : (refused : Bool) → several ≡ has_several names
      → Gains (Answers holds (file_replies form several replies) from names refused) old new
      → Gains (AnswersJson holds form replies from names refused) old new
  answers_each refused is gains = subst (λ b. Gains (Answers holds (file_replies form b replies) from names refused) old new) is gains

  pub ok_each : (r : Result Bool Stop) → several ≡ has_several names
      → IfOk r (λ refused. Gains (Answers holds (file_replies form several replies) from names refused) old new)
      → IfOk r (λ refused. Gains (AnswersJson holds form replies from names refused) old new)
  ok_each r is gains = subst (λ b. IfOk r (λ refused. Gains (Answers holds (file_replies form b replies) from names refused) old new)) is gains

  pub told_each : (marks : LineReplies) (count : ℕ) (r : Result Bool Stop) → several ≡ has_several names
      → IfOk r (λ refused. Gains (AnswersTold holds (file_told form several replies marks) from names refused count) old new)
      → IfOk r (λ refused. Gains (AnswersTold holds (file_told form (has_several names) replies marks) from names refused count) old new)
  told_each marks count r is gains =
      subst (λ b. IfOk r (λ refused. Gains (AnswersTold holds (file_told form b replies marks) from names refused count) old new)) is gains

  pub told_at_once : (marks : LineReplies) (count : ℕ) (refused : Bool) → several ≡ has_several names
      → Gains (AnswersTold holds (file_told form several replies marks) from names refused count) old new
      → Gains (AnswersTold holds (file_told form (has_several names) replies marks) from names refused count) old new
  told_at_once marks count refused is gains =
      subst (λ b. Gains (AnswersTold holds (file_told form b replies marks) from names refused count) old new) is gains

  pub stops_between : (s : Stop) → several ≡ has_several names
      → StopsAnswering holds refuses (file_replies form several replies) (first_file_replies form several replies) from names s old new
      → StopsJson holds refuses form replies from names s old new
  stops_between s is stops = subst (λ b. StopsAnswering holds refuses (file_replies form b replies) (first_file_replies form b replies)
      from names s old new) is stops

  pub err_each : (r : Result Bool Stop) → several ≡ has_several names
      → IfErr r (λ s. StopsAnswering holds refuses (file_replies form several replies) (first_file_replies form several replies)
      from names s old new)
      → IfErr r (λ s. StopsJson holds refuses form replies from names s old new)
  err_each r is stops = subst (λ b. IfErr r (λ s. StopsAnswering holds refuses (file_replies form b replies)
      (first_file_replies form b replies) from names s old new)) is stops

  pub stops_uncounted : HoldsEach → (unsound : Bool) → several ≡ has_several names
      → Gains (Answers holds (file_replies form several replies) from names unsound) old new
      → StopsJson holds refuses form replies from names stop.NoMemory old new
  stops_uncounted each unsound is gains = subst (λ b. Gains (AnswersFirst holds (file_replies form b replies)
      (first_file_replies form b replies) from names (λ _. ⊤)) old new) is (record {
        gained = gains.gained;
        shows = all_answered each holds (file_replies form several replies) (first_file_replies form several replies) from names unsound
            gains.gained gains.shows;
        appends = gains.appends;
      })
