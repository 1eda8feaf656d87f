-- Attack among the men of a position, by the set of the squares that are taken.
use Rattle.std.proofs.Common.{◌≡◌, ℕ, ◌<◌, Bool, not, ◌&&◌, List, Option, None, Some, is_some, refl, sym, ◌∙◌}
use Rattle.square_sets.specs.Members.{has}
use Rattle.chess_board.specs.declared.men.Colour.{Colour}
use Rattle.chess_board.specs.declared.men.Colour.TheVariants.{White, Black}
use Rattle.chess_board.specs.declared.men.Kind.{Kind}
use Rattle.chess_board.specs.declared.men.Kind.TheVariants.{Pawn, Knight, Bishop, Rook, Queen, King}
use Rattle.chess_board.specs.declared.men.Man.{Man}
use Rattle.chess_board.specs.Men.{other_side, is_colour, is_of}
use Rattle.chess_board.specs.Sets.{IsSetOf}
use Rattle.chess_board.specs.Attacks.{attacks_as}
use Rattle.chess_moves.specs.inside.Hits.{is_taken, hits_as}
use Rattle.chess_moves.proofs.AttackSets.{slants_same, straight_same}
use Rattle.chess_moves.proofs.Bridge.{attacks_same}

-- what a man attacks depends on the squares of the board alone
pub hits_same : (p q : ℕ → Bool) → ((s : ℕ) → s < 64 → p s ≡ q s) → (colour : Colour) (asked : Kind) (a b : ℕ)
    → hits_as p colour asked a b ≡ hits_as q colour asked a b
hits_same p q h colour Pawn a b = refl
hits_same p q h colour Knight a b = refl
hits_same p q h colour Bishop a b = slants_same p q h a b
hits_same p q h colour Rook a b = straight_same p q h a b
hits_same p q h colour Queen a b = rw (slants_same p q h a b, straight_same p q h a b)
hits_same p q h colour King a b = refl

pub hits_by_set : (men : List (Option Man)) (occupied : ℕ) → IsSetOf occupied is_some men
    → (colour : Colour) (asked : Kind) (a b : ℕ) → a < 64 → b < 64
    → hits_as (has occupied) colour asked a b ≡ attacks_as men colour asked a b
hits_by_set men occupied set colour asked a b j k =
    hits_same (has occupied) (λ s. is_taken men s) set colour asked a b ∙ sym (attacks_same men colour asked a b j k)

not_colour : (c d : Colour) → not (is_colour c d) ≡ is_colour (other_side c) d
not_colour White White = refl
not_colour White Black = refl
not_colour Black White = refl
not_colour Black Black = refl

-- a man that is not of one side is of the other
pub some_not_of : (c : Colour) (place : Option Man) → (is_some place && not (is_of c place)) ≡ is_of (other_side c) place
some_not_of c None = refl
some_not_of c (Some man) = not_colour c man.colour
