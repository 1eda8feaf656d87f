use Rattle.std.proofs.Common.{take}
use Rattle.std.specs.List.{flat_map}
use Rattle.mate_tree.specs.Layouts.{lettered}
use Rattle.mate_tree.specs.inside.Sheets.{Takes}
use Rattle.mate_tree.proofs.sheets.Sheet.add_lettered.Given as goal

abbrev pub invariant-loop-byte : goal.invariant-loop-byte
invariant-loop-byte g l =
    Takes (g.O.Write.contents l.initial.out) l.initial.self (g.O.Write.contents l.out) l.self
    (flat_map (lettered l.letters) (take l.byte-index l.text))
