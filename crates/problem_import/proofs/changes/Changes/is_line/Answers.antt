use Rattle.std.proofs.Common.{◌≡◌}
use Rattle.std.specs.Bool.{Decides}
use Rattle.std.proofs.lemmas.Bool.Decides.{Decides-eqb}
use Rattle.std.proofs.lemmas.Slice.Eq.{slice_eq-Decides}
use Rattle.problem_import.proofs.Imports.{not_both}
use Rattle.problem_import.proofs.ToldChanges.{changed_form, changed_text}
use Rattle.problem_import.proofs.changes.Changes.is_line.Goals as goal

pub returns-in_default-clause-changed : goal.returns-in_default-clause-changed
returns-in_default-clause-changed c = λ off. changed_form c.args.self.now c.args.line.now c.args.text.now c.in_default.not-Line

pub returns-clause-changed : goal.returns-clause-changed
returns-clause-changed c = λ off.
    let same : Decides c.eq.result (c.args.text.now ≡ c.args.line.now) =
    slice_eq-Decides Decides-eqb c.args.text.now c.args.line.now c.eq.result c.eq.ensures in
    changed_text c.args.self.now c.args.line.now c.args.text.now (λ is. not_both c.eq.result off (same.1 is))
