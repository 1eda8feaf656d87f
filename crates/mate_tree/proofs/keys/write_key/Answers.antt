use Rattle.std.proofs.Common.{◌-◌, ap}
use Rattle.mate_tree.specs.Keys.{below_key}
use Rattle.mate_tree.proofs.AddedLines.{adds_as, adds_first}
use Rattle.mate_tree.proofs.keys.write_key.Goals as goal

pub returns : goal.returns
returns g c =
    adds_first c.write_key_line.ensures
    (adds_as (ap (below_key c.args.alone c.args.at.shown (c.args.at.left - 1)) c.after.ensures) c.write_below.ensures)
