use Rattle.std.proofs.Common.{◌∙◌, ap}
use Rattle.chess_moves.proofs.AttackedSets.{some_leap}
use Rattle.chess_moves.proofs.InLine.{none_hits}
use Rattle.chess_moves.proofs.attacked_sets.squares_in_line.Goals as goal

pub returns : goal.returns
returns c = λ men sets t l none.
    none_hits c.args.side_men.now c.args.by men t _ _ _ _ _ sets
    (c.leapt_to.ensures t l ∙ ap (λ leap. some_leap c.args.side_men.now.pawns leap t) c.capture_of.ensures)
    (c.leapt_to-2.ensures t l) (c.on_diagonals.ensures t l) (c.on_straights.ensures t l) (c.leapt_to-3.ensures t l) none
