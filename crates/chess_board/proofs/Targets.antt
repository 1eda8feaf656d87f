-- The en passant target of a sound position stands on the target rank of the side to move.
use Rattle.std.proofs.Common.{◌≡◌, ℕ, ◌-◌, ◌+◌, ◌<◌, List, Option, Some, None, Bool, true, false, ◌&&◌, ◌==◌, refl, arith}
use Rattle.std.specs.Option.{option_map_or}
use Rattle.std.proofs.lemmas.Bool.{eqb-true}
use Rattle.chess_board.specs.declared.men.Colour.{Colour}
use Rattle.chess_board.specs.declared.men.Colour.TheVariants.{White, Black}
use Rattle.chess_board.specs.declared.men.Man.{Man}
use Rattle.chess_board.specs.Squares.{rank_of}
use Rattle.chess_board.specs.inside.KindTests.{is_pawn_of}
use Rattle.chess_board.specs.Positions.{Setup, man_at, is_empty}
use Rattle.chess_board.specs.Soundness.{has_pawn_of_target, has_pawn_of_some_target}
use Rattle.chess_board.specs.Fields.{IsTargetOf, target_rank}

first_of_four : (a b c d : Bool) → (a && b && c && d) ≡ true → a ≡ true
first_of_four true b c d h = refl
first_of_four false b c d h = cc

on_rank : (men : List (Option Man)) (side : Colour) (square : ℕ) → has_pawn_of_target men side square ≡ true → rank_of square ≡ target_rank side
on_rank men White square h = eqb-true (rank_of square) 5
    (first_of_four (rank_of square == 5) (is_empty men square) (is_pawn_of Black (man_at men (square - 8))) (is_empty men (square + 8)) h)
on_rank men Black square h = eqb-true (rank_of square) 2
    (first_of_four (rank_of square == 2) (is_empty men square) (is_pawn_of White (man_at men (square + 8))) (is_empty men (square - 8)) h)

below : (side : Colour) (square : ℕ) → rank_of square ≡ target_rank side → square < 64
below White square h = omega arith
below Black square h = omega arith

on_board : (men : List (Option Man)) (side : Colour) (target : Option ℕ)
    → option_map_or (has_pawn_of_target men side) target true ≡ true → IsTargetOf side target
on_board men side None h = tt
on_board men side (Some square) h = let rank : rank_of square ≡ target_rank side = on_rank men side square h in (below side square rank, rank)

pub target_on : (p : Setup) → has_pawn_of_some_target p ≡ true → IsTargetOf p.side p.target
target_on p h = on_board p.men p.side p.target h
