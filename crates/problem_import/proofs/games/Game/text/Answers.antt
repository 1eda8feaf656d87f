use Rattle.std.proofs.Common.{ap, sym, subst, ◌∙◌, ◌≡◌, ◌≢◌, []}
use Rattle.chess_notation.specs.RecordFields.{fourth_word, line_fields}
use Rattle.problem_import.specs.inside.FieldTexts.{GoesOn}
use Rattle.problem_import.proofs.FieldTexts.{fields_on, goes_on_on, nothing_behind}
use Rattle.problem_import.proofs.games.Game.text.Goals as goal
use Rattle.problem_import.proofs.games.Game.text.Goals.{in-Moves+in_ok-push_bound_operation, in_default}

pub returns : goal.returns
returns c =
    let start = c.in_ok-text.text.items in
    let is : start ≡ c.args.self.now.fen.items = c.in_ok-text.ensures.items ∙ c.as_slice.ensures.value in
    let some : fourth_word start ≢ [] = subst (λ t. fourth_word t ≢ []) c.as_slice-2.ensures.value (c.has_fields.ensures c.if-not-has_fields.false) in
    let on : GoesOn start c.match-asks.text.items = elim c.match-asks.branch [
      | in-Moves+in_ok-push_bound_operation w ↦ subst (λ t. GoesOn start t.items) (sym w.text-is) w.in_ok-push_bound_operation.ensures
      | in_default w ↦ subst (λ t. GoesOn start t.items) (sym w.text-is) (nothing_behind start)
    ] in
    fields_on start _ some (goes_on_on start c.match-asks.text.items _ on c.in_ok-push_id_operation.ensures) ∙ ap line_fields is
