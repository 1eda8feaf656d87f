use Rattle.std.proofs.Common.{◌∙◌, ap}
use Rattle.std.specs.List.{list_any}
use Rattle.stipulations.specs.Parts.{squeezed}
use Rattle.stipulations.specs.Sides.{begins_with_front, fronts_of_black, is_of_black}
use Rattle.stipulations.proofs.sides.is_of_black.Goals as goal

pub returns : goal.returns
unfolding is_of_black
returns c = c.begins_with_one.ensures ∙ ap (λ text. list_any (begins_with_front (squeezed text)) fronts_of_black) c.trimmed.ensures
