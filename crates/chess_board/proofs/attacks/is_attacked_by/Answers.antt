use Rattle.std.proofs.Common.{◌≡◌, ℕ, Bool, true, false, ◌&&◌, List, Option, None, Some, refl, sym, ◌∙◌}
use Rattle.chess_board.specs.declared.men.Man.{Man}
use Rattle.chess_board.specs.declared.men.Colour.{Colour}
use Rattle.chess_board.specs.Squares.{some_square}
use Rattle.chess_board.specs.Men.{is_of, is_colour}
use Rattle.chess_board.specs.Positions.{man_at}
use Rattle.chess_board.specs.Attacks.{attacks_as, man_attacks, attacks_from, is_attacked}
use Rattle.chess_board.proofs.SetScans.{scan_all, scan_rest, scan_found, scan_none}
use Rattle.chess_board.proofs.attacks.is_attacked_by.Goals as goal

both_again : (a b : Bool) → (a && (a && b)) ≡ (a && b)
both_again true b = refl
both_again false b = refl

module _ (men : List (Option Man)) (by : Colour) (b : ℕ) where
  -- Who attacks for the colour is one of its men.
  of_the_colour : (place : Option Man) (a : ℕ) → (is_of by place && man_attacks men place by a b) ≡ man_attacks men place by a b
  of_the_colour None a = refl
  of_the_colour (Some man) a = both_again (is_colour by man.colour) (attacks_as men man.colour man.kind a b)

  attacked : some_square (λ a. is_of by (man_at men a) && attacks_from men by a b) ≡ is_attacked men b by
  attacked = λ i. some_square (λ a. of_the_colour (man_at men a) a i)

pub loop-from-init : goal.loop-from-init
loop-from-init c =
    let start = c.into_iter-from-iterator.ensures.into_iter_gives ∙ c.squares-from-items.ensures in
    rw start (scan_all _ _ _ c.side.result c.side.ensures)

pub numbered-requires : goal.numbered-requires
numbered-requires c = c.in-Some.ensures.steps.lowest.on_board

pub attacks_from-requires : goal.attacks_from-requires
attacks_from-requires c =
    let first = c.in-Some.ensures.steps.lowest in
    rw c.numbered.ensures (c.loop-from.invariant.there _ first.on_board first.there)

pub returns-then-attacks_from : goal.returns-then-attacks_from
returns-then-attacks_from c =
    let hit = rw c.numbered.ensures at (sym c.attacks_from.ensures ∙ c.if-attacks_from.true) in
    sym (sym (attacked c.args.men.now c.args.by c.args.square) ∙ scan_found _ _ _ _ _ _ c.in-Some.ensures.steps c.loop-from.invariant hit)

pub loop-from-preserved : goal.loop-from-preserved
loop-from-preserved c =
    let fails = rw c.numbered.ensures at (sym c.attacks_from.ensures ∙ c.if-attacks_from.false) in
    scan_rest _ _ _ _ _ _ c.in-Some.ensures.steps c.loop-from.invariant fails

pub returns : goal.returns
returns c = sym (sym (attacked c.args.men.now c.args.by c.args.square) ∙ scan_none _ _ _ _ c.in-None.ensures.steps.0 c.loop-from.invariant)
