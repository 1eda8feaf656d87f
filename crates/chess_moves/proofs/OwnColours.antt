-- A side's own men, and those of the other side.
use Rattle.std.proofs.Common.{◌≡◌, ℕ, true, false, not, ◌&&◌, Option, Some, None, is_some, refl}
use Rattle.std.proofs.lemmas.Bool.{and_parts}
use Rattle.chess_board.specs.declared.men.Colour.{Colour}
use Rattle.chess_board.specs.declared.men.Colour.TheVariants.{White, Black}
use Rattle.chess_board.specs.declared.men.Man.{Man}
use Rattle.chess_board.specs.declared.men.Kind.TheVariants.{Rook, King}
use Rattle.chess_board.specs.Men.{other_side, is_colour, is_kind, is_of, man_of}
use Rattle.chess_board.specs.inside.KindTests.{is_king_kind, is_king_of, is_rook_of}
use Rattle.chess_board.specs.Positions.{Setup, man_at}

pub same_colour : (a b : Colour) → a ≡ b → is_colour a b ≡ true
same_colour White b e = rw (← e) refl
same_colour Black b e = rw (← e) refl

pub other_colour : (a b : Colour) → a ≡ b → is_colour (other_side b) a ≡ false
other_colour White b e = rw (← e) refl
other_colour Black b e = rw (← e) refl

-- a man of one colour is not of the other
pub own_is_not_other : (c a : Colour) → is_colour c a ≡ true → is_colour (other_side c) a ≡ false
own_is_not_other White White h = refl
own_is_not_other White Black h = cc
own_is_not_other Black White h = cc
own_is_not_other Black Black h = refl

other_is_not_own : (c a : Colour) → is_colour (other_side c) a ≡ true → is_colour c a ≡ false
other_is_not_own White White h = cc
other_is_not_own White Black h = refl
other_is_not_own Black White h = refl
other_is_not_own Black Black h = cc

-- Where a man of the other side stands, no own man does.
pub other_not_own : (c : Colour) (place : Option Man) → is_of (other_side c) place ≡ true → is_of c place ≡ false
other_not_own c None h = refl
other_not_own c (Some man) h = other_is_not_own c man.colour h

-- Where an own man stands, no man of the other side does.
pub own_not_other : (p : Setup) (man : Man) (o : ℕ) → man_at p.men o ≡ Some man → man.colour ≡ p.side
    → is_of (other_side p.side) (man_at p.men o) ≡ false
own_not_other p man o there own = rw there (other_colour man.colour p.side own)

pub own_rook_not_other : (c : Colour) (place : Option Man) → is_rook_of c place ≡ true → is_of (other_side c) place ≡ false
own_rook_not_other c None h = refl
own_rook_not_other c (Some man) h = own_is_not_other c man.colour ((and_parts (is_colour c man.colour) (is_kind Rook man.kind) h).0)

-- A man that is no king is not the colour's king.
pub no_king_of : (c : Colour) (man : Man) → is_king_kind man.kind ≡ false → is_king_of c (Some man) ≡ false
no_king_of c man h = (elim (is_colour c man.colour) as (λ b. (b && is_king_kind man.kind) ≡ false) [ true ↦ h | false ↦ refl ])

-- the other side's king is no man of this side
pub not_of_other : (c : Colour) → is_of c (man_of (other_side c) King) ≡ false
not_of_other White = refl
not_of_other Black = refl

-- a square with no man, or with one of this side, has none of the other
pub free_of_other : (c : Colour) (place : Option Man) → not (is_some place && not (is_of c place)) ≡ true → is_of (other_side c) place ≡ false
free_of_other c None h = refl
free_of_other c (Some man) h = of_colour c man.colour h
  where
    of_colour : (c d : Colour) → not (not (is_colour c d)) ≡ true → is_colour (other_side c) d ≡ false
    of_colour White White h = refl
    of_colour White Black h = absurd (cc)
    of_colour Black White h = absurd (cc)
    of_colour Black Black h = refl
