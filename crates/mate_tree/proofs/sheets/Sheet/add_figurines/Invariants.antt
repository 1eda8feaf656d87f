use Rattle.std.proofs.Common.{take}
use Rattle.std.specs.List.{flat_map}
use Rattle.mate_tree.specs.Layouts.{figurine}
use Rattle.mate_tree.specs.inside.Sheets.{Takes}
use Rattle.mate_tree.proofs.sheets.Sheet.add_figurines.Given as goal

abbrev pub invariant-loop-byte : goal.invariant-loop-byte
invariant-loop-byte g l =
    Takes (g.O.Write.contents l.initial.out) l.initial.self (g.O.Write.contents l.out) l.self (flat_map figurine (take l.byte-index l.text))
