use Rattle.std.proofs.Common.{refl}
use Rattle.mate_tree.specs.Layouts.{lettered}
use Rattle.mate_tree.proofs.WrittenLines.{bytes_all, bytes_more, takes_none}
use Rattle.mate_tree.proofs.sheets.Sheet.add_lettered.Goals as goal

pub loop-byte-init : goal.loop-byte-init
loop-byte-init g c = takes_none (g.O.Write.contents c.args.out.now) c.args.self.now

pub loop-byte-preserved : goal.loop-byte-preserved
loop-byte-preserved g c =
    bytes_more (lettered c.args.letters.now) c.args.text.now c.loop-byte.byte-index c.loop-byte-test.true c.loop-byte.invariant c.add_letter.ensures
    refl

pub returns : goal.returns
returns g c =
    bytes_all (lettered c.args.letters.now) c.args.text.now c.loop-byte.byte-index c.loop-byte-test.false c.loop-byte.invariant
