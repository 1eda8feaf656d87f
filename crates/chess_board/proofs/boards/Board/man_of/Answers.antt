use Rattle.std.proofs.Common.{◌≡◌, true, is_some, cond, ◌<◌, arith, Option, None, Some, refl}
use Rattle.chess_board.specs.declared.men.Man.{Man}
use Rattle.chess_board.specs.declared.men.Colour.{Colour}
use Rattle.chess_board.specs.declared.men.Colour.TheVariants.{White, Black}
use Rattle.chess_board.specs.Positions.{man_at}
use Rattle.chess_board.specs.Men.{is_of, is_colour}
use Rattle.chess_board.proofs.BoardWords.{man_at-taken}
use Rattle.chess_board.proofs.boards.Board.man_of.Goals as goal

some_man : (colour : Colour) (place : Option Man) → is_of colour place ≡ true → is_some place ≡ true
some_man colour None e = cc
some_man colour (Some man) e = refl

its_colour : (colour : Colour) (place : Option Man) → is_of colour place ≡ true → colour ≡ cond (is_of White place) White Black
its_colour colour None e = cc
its_colour colour (Some man) e = by_parts colour man.colour e
  where
    by_parts : (a b : Colour) → is_colour a b ≡ true → a ≡ cond (is_colour White b) White Black
    by_parts White White e = refl
    by_parts White Black e = cc
    by_parts Black White e = cc
    by_parts Black Black e = refl

pub returns : goal.returns
returns c =
    let men = c.args.self.now in
    let s = c.args.square in
    let on : s < 64 = omega arith in
    let pawns = c.kind.ensures s on in
    let knights = c.kind-2.ensures s on in
    let bishops = c.kind-3.ensures s on in
    let rooks = c.kind-4.ensures s on in
    let queens = c.kind-5.ensures s on in
    man_at-taken men s c.args.colour c.kind_at.result (some_man c.args.colour (man_at men s) c.requires)
    (its_colour c.args.colour (man_at men s) c.requires)
    (rw (c.index-index.ensures.number, pawns, knights, bishops, rooks, queens) at c.kind_at.ensures)
