use Rattle.std.proofs.Common.{◌∙◌, ap}
use Rattle.chess_moves.proofs.AttackedSets.{all_attacked, some_leap}
use Rattle.chess_moves.proofs.attacked_sets.attacked_squares.Goals as goal

pub returns : goal.returns
returns c = λ men stands sets t l.
    all_attacked c.args.occupied c.args.side_men.now c.args.by men t _ _ _ _ _ stands sets
    (c.leapt_to.ensures t l ∙ ap (λ leap. some_leap c.args.side_men.now.pawns leap t) c.capture_of.ensures)
    (c.leapt_to-2.ensures t l) (c.seen_by_bishops.ensures t l) (c.seen_by_rooks.ensures t l) (c.leapt_to-3.ensures t l)
