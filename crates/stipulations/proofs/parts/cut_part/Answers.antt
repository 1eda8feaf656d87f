use Rattle.stipulations.proofs.Cuts.{parts_cut, part_shorter}
use Rattle.stipulations.proofs.parts.cut_part.Goals as goal

pub returns-clause-parts : goal.returns-clause-parts
returns-clause-parts c = rw (c.cut.ensures.front, c.cut.ensures.after) (parts_cut c.args.text.now)

pub returns-clause-shorter : goal.returns-clause-shorter
returns-clause-shorter c = rw c.cut.ensures.after (part_shorter c.args.text.now c.requires)
