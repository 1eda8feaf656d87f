use Rattle.std.proofs.Common.{◌≡◌, ℕ, false, not, List, Option, None, is_some, length, set, refl, sym, ap, ◌∙◌, length-set}
use Rattle.std.proofs.lemmas.Bool.{and_from, both_ways}
use Rattle.chess_board.specs.declared.men.Colour.{Colour}
use Rattle.chess_board.specs.declared.men.Man.{Man}
use Rattle.chess_board.specs.Men.{is_of}
use Rattle.chess_board.specs.Positions.{man_at}
use Rattle.chess_moves.specs.inside.Hits.{is_taken, hits_as, is_hit}
use Rattle.chess_moves.proofs.Kept.{has_all}
use Rattle.chess_moves.proofs.Moved.{stands_without, stand_still}
use Rattle.chess_moves.proofs.OwnColours.{not_of_other}
use Rattle.chess_moves.proofs.PlainChecks.{hidden_lifted}
use Rattle.chess_moves.proofs.flights.squares_covering.Goals.{then-contains+else-is_hit_over, else-contains}
use Rattle.chess_moves.proofs.flights.squares_covering.Goals as goal

pub returns-then-is_hit_over : goal.returns-then-is_hit_over
returns-then-is_hit_over c = λ t l none. absurd (both_ways _ none (has_all t l))

pub returns : goal.returns
returns c = λ t l none.
    let p = c.args.info.now.position.now in
    let k : ℕ = c.args.flights.king in
    let o : ℕ = c.args.mover.origin in
    let f : ℕ = c.args.flight in
    let by : Colour = c.args.info.now.side in
    let side : by ≡ p.side = c.requires.info.side in
    let flights = c.requires.flights in
    let long = flights.sound.squares in
    let lifted_men : List (Option Man) = set p.men k None in
    let gone : List (Option Man) = set lifted_men o None in
    let len : length lifted_men ≡ 64 = simp length-set long in
    let flight = flights.squares f c.requires.on_board c.requires.flight in
    let safe : is_hit gone f p.side ≡ false = elim c.if-contains.branch [
      | then-contains+else-is_hit_over w ↦
          let lifted = stands_without is_some p.men c.args.info.now.occupied w.without-lifted.result k None long flights.on_board
          w.without-lifted.ensures refl c.requires.info.occupied in
          let both = stands_without is_some lifted_men w.without-lifted.result w.without-gone.result o None len
          c.requires.mover.on_board w.without-gone.ensures refl lifted in
          let no_man : is_of by (man_at p.men k) ≡ false =
          ap (λ (c : Colour). is_of c (man_at p.men k)) side ∙ ap (is_of p.side) flights.there ∙ not_of_other p.side in
          let still = stand_still w.side_men_of.result by p.men k None long flights.on_board no_man refl w.side_men_of.ensures in
          let others = w.without-others.ensures lifted_men by None len still refl in
          ap (is_hit gone f) (sym side) ∙ sym (w.is_hit_over.ensures gone both others) ∙ w.if-is_hit_over.false
      | else-contains w ↦
          let hidden = c.lines_to-lines.ensures (λ s. is_taken lifted_men s) o c.requires.mover.on_board (sym c.contains.ensures ∙ w.if-contains.false) in
          (hidden_lifted lifted_men o len c.requires.mover.on_board p.side f hidden flight.safe).0
    ] in
    let misses : hits_as (λ s. is_taken gone s) p.side c.args.mover.man.kind t f ≡ false =
    ap (λ (c0 : Colour). hits_as (λ s. is_taken gone s) c0 c.args.mover.man.kind t f) (sym side)
    ∙ c.lines_to.ensures (λ s. is_taken gone s) t l none in
    and_from (not (is_hit gone f p.side)) (not (hits_as (λ s. is_taken gone s) p.side c.args.mover.man.kind t f)) (ap not safe) (ap not misses)
