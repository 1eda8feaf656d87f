use Rattle.std.proofs.Common.{◌∙◌, ◌++◌, ◌∷◌, ap}
use Rattle.mate_tree.specs.Layouts.{letter_for}
use Rattle.mate_tree.proofs.WrittenLines.{takes_as, takes_more}
use Rattle.mate_tree.proofs.sheets.Sheet.add_letter.Goals as goal

pub returns : goal.returns
returns g c =
    let behind = c.behind_letter.result.now in
    takes_as (ap (λ t. t ++ behind) c.from_ref.ensures.value ∙ ap (λ b. b ∷ behind) c.letter_for-first.ensures
    ∙ ap (λ t. letter_for c.args.letters.now c.args.byte ∷ t) c.behind_letter.ensures)
    (takes_more c.add.ensures c.add-2.ensures)
