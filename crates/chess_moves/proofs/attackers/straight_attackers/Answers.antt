use Rattle.square_sets.specs.Members.{has}
use Rattle.chess_moves.proofs.EmptyLines.{no_straight, none_near, some_near}
use Rattle.chess_moves.proofs.attackers.straight_attackers.Goals as goal

pub returns-then-near-eq0 : goal.returns-then-near-eq0
returns-then-near-eq0 c = λ t l. none_near c.args.sliders c.straights.result t _ _ (c.straights.ensures t l)
    (no_straight (has c.args.occupied) c.args.square t) c.if-near-eq0.true

pub returns : goal.returns
returns c = λ t l. some_near c.args.sliders c.straights.result c.rook_attacks.result t _ _ (c.straights.ensures t l)
    (no_straight (has c.args.occupied) c.args.square t) (c.rook_attacks.ensures t l)
