use Rattle.std.proofs.Common.{ap, ◌∙◌, ◌++◌, append_assoc}
use Rattle.std.specs.Prelude.{codes}
use Rattle.problem_import.proofs.FieldTexts.{nothing_behind, word_longer}
use Rattle.problem_import.proofs.operations.push_id_operation.Goals as goal

pub returns-then-is_empty : goal.returns-then-is_empty
returns-then-is_empty c = nothing_behind c.args.text.now.items

pub returns : goal.returns
returns c =
    let one = c.extend_from_slice.new.self.items in
    word_longer c.args.text.now.items one _ (codes "id \"") (c.args.id.now ++ codes "\";") c.in_ok-extend_from_slice.ensures.items
    (c.in_ok-extend_from_slice-3.ensures.items ∙ ap (λ t. t ++ codes "\";") c.in_ok-extend_from_slice-2.ensures.items
    ∙ append_assoc one c.args.id.now (codes "\";"))
