use Rattle.mate_tree.specs.Layouts.{figurine}
use Rattle.mate_tree.proofs.WrittenLines.{bytes_all, bytes_more, takes_none}
use Rattle.mate_tree.proofs.sheets.Sheet.add_figurines.Goals as goal

pub loop-byte-init : goal.loop-byte-init
loop-byte-init g c = takes_none (g.O.Write.contents c.args.out.now) c.args.self.now

pub loop-byte-preserved : goal.loop-byte-preserved
loop-byte-preserved g c =
    bytes_more figurine c.args.text.now c.loop-byte.byte-index c.loop-byte-test.true c.loop-byte.invariant c.add.ensures c.figurine.ensures

pub returns : goal.returns
returns g c = bytes_all figurine c.args.text.now c.loop-byte.byte-index c.loop-byte-test.false c.loop-byte.invariant
