use Rattle.std.proofs.Common.{◌<◌, ◌^◌, arith, bit_or}
use Rattle.std.proofs.lemmas.Nat.{or_lt}
use Rattle.square_sets.specs.Members.{has}
use Rattle.chess_moves.specs.declared.directions.Direction.TheVariants.{North, East, South, West}
use Rattle.chess_moves.specs.inside.Directions.{is_on_straight, is_blocked, reaches_as_rook}
use Rattle.chess_moves.proofs.AttackSets.{open_four}
use Rattle.chess_moves.proofs.Compass.{toward_one}
use Rattle.chess_moves.proofs.ray_tables.Rays.rook_attacks.Goals as goal

pub returns : goal.returns
unfolding is_on_straight reaches_as_rook
returns c = λ t l.
    let one : bit_or c.hidden.result c.hidden-2.result < 2 ^ 64 = or_lt 64 c.hidden.result c.hidden-2.result (omega arith) (omega arith) in
    let two : bit_or (bit_or c.hidden.result c.hidden-2.result) c.hidden-3.result < 2 ^ 64 =
    or_lt 64 (bit_or c.hidden.result c.hidden-2.result) c.hidden-3.result one (omega arith) in
    open_four c.straights.result c.hidden.result c.hidden-2.result c.hidden-3.result c.hidden-4.result t _ _ _ _
    (is_blocked (has c.args.occupied) North c.args.square t) (is_blocked (has c.args.occupied) East c.args.square t)
    (is_blocked (has c.args.occupied) South c.args.square t) (is_blocked (has c.args.occupied) West c.args.square t)
    (or_lt 64 (bit_or (bit_or c.hidden.result c.hidden-2.result) c.hidden-3.result) c.hidden-4.result two (omega arith)) l
    (c.straights.ensures t l) (c.hidden.ensures t l) (c.hidden-2.ensures t l) (c.hidden-3.ensures t l) (c.hidden-4.ensures t l)
    (λ h k. let same = toward_one North East c.args.square t h k in absurd (cc))
    (λ h k. let same = toward_one North South c.args.square t h k in absurd (cc))
    (λ h k. let same = toward_one North West c.args.square t h k in absurd (cc))
    (λ h k. let same = toward_one East South c.args.square t h k in absurd (cc))
    (λ h k. let same = toward_one East West c.args.square t h k in absurd (cc))
    (λ h k. let same = toward_one South West c.args.square t h k in absurd (cc))
