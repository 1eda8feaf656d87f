use Rattle.std.proofs.Common.{◌<◌, ◌^◌, arith, bit_or}
use Rattle.std.proofs.lemmas.Nat.{or_lt}
use Rattle.square_sets.specs.Members.{has}
use Rattle.chess_moves.specs.declared.directions.Direction.TheVariants.{NorthEast, SouthEast, SouthWest, NorthWest}
use Rattle.chess_moves.specs.inside.Directions.{is_on_diagonal, is_blocked, reaches_as_bishop}
use Rattle.chess_moves.proofs.AttackSets.{open_four}
use Rattle.chess_moves.proofs.Compass.{toward_one}
use Rattle.chess_moves.proofs.ray_tables.Rays.bishop_attacks.Goals as goal

pub returns : goal.returns
unfolding is_on_diagonal reaches_as_bishop
returns c = λ t l.
    let one : bit_or c.hidden.result c.hidden-2.result < 2 ^ 64 = or_lt 64 c.hidden.result c.hidden-2.result (omega arith) (omega arith) in
    let two : bit_or (bit_or c.hidden.result c.hidden-2.result) c.hidden-3.result < 2 ^ 64 =
    or_lt 64 (bit_or c.hidden.result c.hidden-2.result) c.hidden-3.result one (omega arith) in
    open_four c.diagonals.result c.hidden.result c.hidden-2.result c.hidden-3.result c.hidden-4.result t _ _ _ _
    (is_blocked (has c.args.occupied) NorthEast c.args.square t) (is_blocked (has c.args.occupied) SouthEast c.args.square t)
    (is_blocked (has c.args.occupied) SouthWest c.args.square t) (is_blocked (has c.args.occupied) NorthWest c.args.square t)
    (or_lt 64 (bit_or (bit_or c.hidden.result c.hidden-2.result) c.hidden-3.result) c.hidden-4.result two (omega arith)) l
    (c.diagonals.ensures t l) (c.hidden.ensures t l) (c.hidden-2.ensures t l) (c.hidden-3.ensures t l) (c.hidden-4.ensures t l)
    (λ h k. let same = toward_one NorthEast SouthEast c.args.square t h k in absurd (cc))
    (λ h k. let same = toward_one NorthEast SouthWest c.args.square t h k in absurd (cc))
    (λ h k. let same = toward_one NorthEast NorthWest c.args.square t h k in absurd (cc))
    (λ h k. let same = toward_one SouthEast SouthWest c.args.square t h k in absurd (cc))
    (λ h k. let same = toward_one SouthEast NorthWest c.args.square t h k in absurd (cc))
    (λ h k. let same = toward_one SouthWest NorthWest c.args.square t h k in absurd (cc))
