use Rattle.std.proofs.Common.{◌∙◌, sym}
use Rattle.mate_tree.proofs.WrittenLines.{figured_by, takes_as}
use Rattle.mate_tree.specs.declared.forms.Pieces.TheVariants as pieces
use Rattle.mate_tree.proofs.sheets.Sheet.show.Goals as goal

pub returns-in-San : goal.returns-in-San
returns-in-San g c =
    takes_as (figured_by c.args.self.now.room.pieces pieces.San c.args.text.now (sym c.in-San.is ∙ c.pieces.ensures)) c.add.ensures

pub returns-in-Figurines : goal.returns-in-Figurines
returns-in-Figurines g c =
    takes_as (figured_by c.args.self.now.room.pieces pieces.Figurines c.args.text.now (sym c.in-Figurines.is ∙ c.pieces.ensures))
    c.add_figurines.ensures

pub returns-in-Letters : goal.returns-in-Letters
returns-in-Letters g c =
    takes_as (figured_by c.args.self.now.room.pieces (pieces.Letters c.in-Letters.letters) c.args.text.now
    (sym c.in-Letters.is ∙ c.pieces.ensures)) c.add_lettered.ensures
