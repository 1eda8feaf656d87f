use Rattle.std.proofs.Common.{ap, ◌∙◌, ◌++◌}
use Rattle.std.specs.Prelude.{codes}
use Rattle.problem_import.specs.inside.KeptChanges.{has_change}
use Rattle.problem_import.proofs.ToldChanges.{telling_behind}
use Rattle.problem_import.proofs.printing.telling_text.Goals as goal

pub returns : goal.returns
returns c = telling_behind (has_change c.args.changes.now) c.args.text.now c.extend_from_slice.new.self.items c.push_names.new.text.items
    c.extend_from_slice-2.new.self.items
    (c.in_ok-extend_from_slice.ensures.items ∙ ap (λ t. t ++ codes " c9 \"import") c.in_ok-told.ensures.items) c.in_ok-push_names.ensures
    c.in_ok-extend_from_slice-2.ensures.items
