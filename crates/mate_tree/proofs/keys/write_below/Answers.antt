use Rattle.std.proofs.Common.{ap}
use Rattle.mate_tree.specs.Defences.{defences}
use Rattle.mate_tree.specs.Variations.{variations}
use Rattle.mate_tree.proofs.AddedLines.{adds_as}
use Rattle.mate_tree.proofs.keys.write_below.Goals as goal

pub returns-then-alone : goal.returns-then-alone
returns-then-alone g c =
    let own = adds_as (ap (λ i. variations c.args.at.shown i c.args.at.left c.args.position.now) c.requires.first) c.write_variations.ensures in
    rw (c.if-alone.true) own

pub returns-else-alone : goal.returns-else-alone
returns-else-alone g c =
    let own = adds_as (ap (λ i. defences c.args.at.shown i c.args.at.left c.args.position.now) c.requires.first) c.write_defences.ensures in
    rw (c.if-alone.false) own
