use Rattle.std.proofs.Common.{◌∙◌, ap, sym, subst}
use Rattle.chess_notation.specs.Records.{problem_of}
use Rattle.mate_jobs.specs.Jobs.{AnswerValue}
use Rattle.mate_search.specs.inside.Truth.{truth}
use Rattle.mate_desk.specs.Headline.{IsTrueOf}
use Rattle.mate_desk.proofs.steps_and_replies.Reply.outcome.Goals as goal

pub returns-in-Answer-clause-true_answer : goal.returns-in-Answer-clause-true_answer
unfolding IsTrueOf
returns-in-Answer-clause-true_answer c =
    let held : AnswerValue = c.in-Answer.held in
    let told = c.outcome.ensures.told ∙ ap (λ (a : AnswerValue). a.outcome) c.answer.ensures in
    let right = c.outcome.ensures.right ∙ ap (λ (a : AnswerValue). truth (problem_of a.asked)) c.answer.ensures in
    rw c.in-Answer.is (told, subst (λ outcome. IsTrueOf held.asked outcome) (sym right) (c.truth_reads.ensures (problem_of held.asked)))
