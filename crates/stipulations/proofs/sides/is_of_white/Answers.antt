use Rattle.std.proofs.Common.{◌∙◌, ap}
use Rattle.std.specs.List.{list_any}
use Rattle.stipulations.specs.Parts.{squeezed}
use Rattle.stipulations.specs.Sides.{begins_with_front, fronts_of_white, is_of_white}
use Rattle.stipulations.proofs.sides.is_of_white.Goals as goal

pub returns : goal.returns
unfolding is_of_white
returns c = c.begins_with_one.ensures ∙ ap (λ text. list_any (begins_with_front (squeezed text)) fronts_of_white) c.trimmed.ensures
