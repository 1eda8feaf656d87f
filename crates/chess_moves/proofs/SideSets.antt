-- One side's men by kinds, as sets of squares.
use Rattle.std.proofs.Common.{◌≡◌, ℕ, Bool, true, false, ◌&&◌, ◌||◌, List, Option, None, Some, refl, ap, ◌∙◌}
use Rattle.std.specs.Int.RustNames.{bit_or}
use Rattle.chess_board.specs.declared.men.Colour.{Colour}
use Rattle.chess_board.specs.declared.men.Kind.{Kind}
use Rattle.chess_board.specs.declared.men.Kind.TheVariants.{Pawn, Knight, Bishop, Rook, Queen, King}
use Rattle.chess_board.specs.declared.men.Man.{Man}
use Rattle.chess_board.specs.Men.{is_colour, is_of, is_man, is_kind}
use Rattle.chess_board.specs.inside.KindTests.{is_pawn_kind, is_king_kind}
use Rattle.chess_board.specs.Positions.{man_at}
use Rattle.chess_board.specs.Sets.{IsSetOf}
use Rattle.chess_moves.specs.inside.SideMen.{is_knight_kind, is_one, is_diagonal_kind, is_straight_kind}
use Rattle.chess_moves.proofs.SetBits.{has_or}

-- the men of one kind
pub set_of_kind : (asked : Kind) (passes : Kind → Bool) (colour : Colour) (men : List (Option Man)) (set : ℕ)
    → ((kind : Kind) → is_kind asked kind ≡ passes kind) → IsSetOf set (is_man colour asked) men → IsSetOf set (is_one colour passes) men
set_of_kind asked passes colour men set same stands s l = stands s l ∙ by_place (man_at men s)
  where
    by_place : (place : Option Man) → is_man colour asked place ≡ is_one colour passes place
    by_place None = refl
    by_place (Some man) = ap (λ (x : Bool). is_colour colour man.colour && x) (same man.kind)

-- the men of two kinds
pub set_of_kinds : (asked other : Kind) (passes : Kind → Bool) (colour : Colour) (men : List (Option Man)) (set more : ℕ)
    → ((kind : Kind) → (is_kind asked kind || is_kind other kind) ≡ passes kind)
    → IsSetOf set (is_man colour asked) men → IsSetOf more (is_man colour other) men → IsSetOf (bit_or set more) (is_one colour passes) men
set_of_kinds asked other passes colour men set more same stands others s l = rw (has_or set more s, stands s l, others s l) (by_place (man_at men s))
  where
    spread : (x y z : Bool) → (x && y || x && z) ≡ (x && (y || z))
    spread true y z = refl
    spread false y z = refl

    by_place : (place : Option Man) → (is_man colour asked place || is_man colour other place) ≡ is_one colour passes place
    by_place None = refl
    by_place (Some man) =
        spread (is_colour colour man.colour) (is_kind asked man.kind) (is_kind other man.kind)
        ∙ ap (λ (x : Bool). is_colour colour man.colour && x) (same man.kind)

pub diagonal_kinds : (kind : Kind) → (is_kind Bishop kind || is_kind Queen kind) ≡ is_diagonal_kind kind
diagonal_kinds Pawn = refl
diagonal_kinds Knight = refl
diagonal_kinds Bishop = refl
diagonal_kinds Rook = refl
diagonal_kinds Queen = refl
diagonal_kinds King = refl

pub straight_kinds : (kind : Kind) → (is_kind Rook kind || is_kind Queen kind) ≡ is_straight_kind kind
straight_kinds Pawn = refl
straight_kinds Knight = refl
straight_kinds Bishop = refl
straight_kinds Rook = refl
straight_kinds Queen = refl
straight_kinds King = refl

-- each man is of some kind
pub kinds_all : (colour : Colour) (place : Option Man)
    → (is_one colour is_pawn_kind place || is_one colour is_knight_kind place || is_one colour is_diagonal_kind place
    || is_one colour is_straight_kind place || is_one colour is_king_kind place)
    ≡ is_of colour place
kinds_all colour None = refl
kinds_all colour (Some man) = own (is_colour colour man.colour) man.kind
  where
    own : (x : Bool) (kind : Kind) → (x && is_pawn_kind kind || x && is_knight_kind kind || x && is_diagonal_kind kind || x
        && is_straight_kind kind || x && is_king_kind kind) ≡ x
    own false asked = refl
    own true Pawn = refl
    own true Knight = refl
    own true Bishop = refl
    own true Rook = refl
    own true Queen = refl
    own true King = refl
