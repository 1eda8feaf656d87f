use Rattle.std.proofs.Common.{◌++◌, ◌∷◌, [], ◌∙◌, ap, arith}
use Rattle.std.proofs.lemmas.Result.{IfOk-at_ok}
use Rattle.std.specs.String.{string_bytes}
use Rattle.chess_notation.specs.Answers.{answer_text}
use Rattle.mate_search.specs.inside.Truth.{truth}
use Rattle.mate_answers.proofs.input_replies.record_text.Goals as goal

pub returns-clause-text : goal.returns-clause-text
returns-clause-text g c =
    ap (λ v. v.items) c.into_bytes.ensures.value ∙ c.in_ok-push.ensures.bytes
    ∙ ap (λ end. string_bytes c.in_ok-text.text ++ end) (c.in_ok-push.ensures.ascii (omega arith))
    ∙ ap (λ t. t ++ 10 ∷ []) (c.in_ok-text.ensures
    ∙ ap (answer_text c.args.record.now) (IfOk-at_ok _ c.in-Ok.is c.solve-solved.ensures.truth ∙ ap truth c.problem.ensures))
