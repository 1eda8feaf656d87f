use Rattle.square_sets.specs.Members.{has}
use Rattle.chess_moves.proofs.EmptyLines.{no_slant, none_near, some_near}
use Rattle.chess_moves.proofs.attackers.diagonal_attackers.Goals as goal

pub returns-then-near-eq0 : goal.returns-then-near-eq0
returns-then-near-eq0 c = λ t l. none_near c.args.sliders c.diagonals.result t _ _ (c.diagonals.ensures t l)
    (no_slant (has c.args.occupied) c.args.square t) c.if-near-eq0.true

pub returns : goal.returns
returns c = λ t l. some_near c.args.sliders c.diagonals.result c.bishop_attacks.result t _ _ (c.diagonals.ensures t l)
    (no_slant (has c.args.occupied) c.args.square t) (c.bishop_attacks.ensures t l)
