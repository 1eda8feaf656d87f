use Rattle.std.proofs.Common.{◌≡◌, refl, ℕ, ◌<◌, true, false, ◌&&◌, sym, ap, subst, ◌∙◌, bit_or}
use Rattle.std.proofs.lemmas.Bool.{or_parts, and_parts}
use Rattle.square_sets.specs.Members.{has}
use Rattle.chess_board.specs.MakeMove.{after_setup}
use Rattle.chess_board.specs.Positions.{man_at}
use Rattle.chess_moves.specs.inside.Flights.{leaves_flight}
use Rattle.chess_moves.specs.Verdicts.{is_mate}
use Rattle.chess_moves.proofs.FlightSquares.{flight_left}
use Rattle.chess_moves.proofs.SetBits.{has_and, has_or}
use Rattle.chess_moves.proofs.flights.squares_that_cover.Goals as goal

pub squares_covering-requires-clause-flight : goal.squares_covering-requires-clause-flight
squares_covering-requires-clause-flight c =
    let lowest = c.in-Some.ensures.steps.lowest in c.loop-flight.invariant.left c.in-Some.flight lowest.on_board lowest.there

pub loop-flight-preserved : goal.loop-flight-preserved
loop-flight-preserved c =
    let p = c.args.info.now.position.now in
    let flights = c.requires.flights in
    let f : ℕ = c.in-Some.flight in
    let split = c.in-Some.ensures.steps in
    let special = c.special_squares-special.result in
    let from = c.squares_covering.result in
    record {
      dropped = λ m legal at t_on hoped out.
          (elim (has c.loop-flight.covering m.target) as (λ b. has c.loop-flight.covering m.target ≡ b → is_mate (after_setup p m) ≡ false) [
            | false ↦ λ e. c.loop-flight.invariant.dropped m legal at t_on hoped e
            | true ↦ λ e.
                let now : (true && has (bit_or special from) m.target) ≡ false = ap (λ x. x && has (bit_or special from) m.target)
                (sym e) ∙ sym (has_and c.loop-flight.covering (bit_or special from) m.target) ∙ out in
                let both = or_parts (has special m.target) (has from m.target) (sym (has_or special from m.target) ∙ now) in
                let o_on : m.origin < 64 = subst (λ s. s < 64) (sym at) c.requires.mover.on_board in
                let here = ap (man_at p.men) at ∙ c.requires.mover.there in
                let plain = c.special_squares-special.ensures m legal here o_on t_on both.0 in
                let leaves = ap (λ s. leaves_flight p c.args.flights.king s c.args.mover.man.kind m.target f) at
                ∙ c.squares_covering.ensures m.target t_on both.1 in
                flight_left p c.args.flights.king f c.args.mover.man m flights.sound (c.sound_after.ensures p m flights.sound o_on t_on
                legal) flights.on_board flights.there o_on t_on here legal plain
                (flights.squares f split.lowest.on_board (c.loop-flight.invariant.left f split.lowest.on_board split.lowest.there)) leaves
          ]) refl;
      left = λ s l on. c.loop-flight.invariant.left s l (and_parts _ (has c.loop-flight.flight-iterator s) (sym (split.others s l) ∙ on)).1;
    }
