-- When two colours are one.
use Rattle.std.proofs.Common.{◌≡◌, true, refl}
use Rattle.chess_board.specs.declared.men.Colour.{Colour}
use Rattle.chess_board.specs.declared.men.Colour.TheVariants.{White, Black}
use Rattle.chess_board.specs.Men.{is_colour}

pub colour_same : (a b : Colour) → is_colour a b ≡ true → a ≡ b
colour_same White White h = refl
colour_same White Black h = cc
colour_same Black White h = cc
colour_same Black Black h = refl

pub is_colour_same : (a : Colour) → is_colour a a ≡ true
is_colour_same White = refl
is_colour_same Black = refl
