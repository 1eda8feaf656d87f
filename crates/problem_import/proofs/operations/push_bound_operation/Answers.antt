use Rattle.std.proofs.Common.{ap, ◌∙◌, ◌∷◌, [], ◌++◌, append_assoc}
use Rattle.std.specs.Prelude.{codes}
use Rattle.problem_import.proofs.FieldTexts.{word_longer}
use Rattle.problem_import.proofs.operations.push_bound_operation.Goals as goal

pub returns : goal.returns
returns c =
    let (digits, is) = c.in_ok-push_moves.ensures in
    word_longer c.args.text.now.items c.extend_from_slice.new.self.items _ (codes "dm ") (digits ++ 59 ∷ []) c.in_ok-extend_from_slice.ensures.items
    (c.in_ok-push_byte.ensures ∙ ap (λ t. t ++ 59 ∷ []) is ∙ append_assoc c.extend_from_slice.new.self.items digits (59 ∷ []))
