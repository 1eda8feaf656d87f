use Rattle.std.proofs.Common.{◌++◌, ◌∷◌, [], ◌∙◌, ap, arith, sym}
use Rattle.std.proofs.lemmas.Bool.{false≢true}
use Rattle.std.specs.String.{string_bytes}
use Rattle.chess_notation.specs.Answers.{answer_text}
use Rattle.mate_answers.proofs.limited_replies.limited_text.Goals as goal
use Rattle.mate_answers.proofs.limited_replies.limited_text.Goals.{in-Ok+in_ok-answer_text-in-Ok, in-Err+in_ok-undecided_text-in-Err}

pub returns-clause-decided : goal.returns-clause-decided
returns-clause-decided g c = λ yes. elim c.match-decide.branch [
  | in-Ok+in_ok-answer_text-in-Ok w ↦
      ap (λ v. v.items) c.into_bytes.ensures.value ∙ c.in_ok-push.ensures.bytes
      ∙ ap (λ end. string_bytes c.match-decide.text.0 ++ end) (c.in_ok-push.ensures.ascii (omega arith))
      ∙ ap (λ t. t ++ 10 ∷ []) (ap (λ said. string_bytes said.0) w.text-is ∙ w.in_ok-answer_text-in-Ok.ensures
      ∙ ap (answer_text c.args.record.now) w.in-Ok.ensures.truth)
  | in-Err+in_ok-undecided_text-in-Err w ↦ absurd (false≢true (sym (ap (λ said. said.1) w.text-is) ∙ yes))
]

pub returns-clause-undecided : goal.returns-clause-undecided
returns-clause-undecided g c = λ no. elim c.match-decide.branch [
  | in-Ok+in_ok-answer_text-in-Ok w ↦ absurd (false≢true (sym no ∙ ap (λ said. said.1) w.text-is))
  | in-Err+in_ok-undecided_text-in-Err w ↦ (
    w.in-Err.none,
    w.in-Err.ensures.none,
    ap (λ v. v.items) c.into_bytes.ensures.value ∙ c.in_ok-push.ensures.bytes
        ∙ ap (λ end. string_bytes c.match-decide.text.0 ++ end) (c.in_ok-push.ensures.ascii (omega arith))
        ∙ ap (λ t. t ++ 10 ∷ []) (ap (λ said. string_bytes said.0) w.text-is ∙ w.in_ok-undecided_text-in-Err.ensures),
  )
]

pub returns-clause-stopped : goal.returns-clause-stopped
returns-clause-stopped g c = λ no. elim c.match-decide.branch [
  | in-Ok+in_ok-answer_text-in-Ok w ↦ absurd (false≢true (sym no ∙ ap (λ said. said.1) w.text-is))
  | in-Err+in_ok-undecided_text-in-Err w ↦ w.in-Err.ensures.stopped
]
