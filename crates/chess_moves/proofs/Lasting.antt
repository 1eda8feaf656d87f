-- A move that attacks a lasting flight from nowhere does not mate.
use Rattle.std.proofs.Common.{◌≡◌, ℕ, ◌<◌, Bool, true, false, not, Some, None, set, ap}
use Rattle.std.proofs.lemmas.Bool.{and_from}
use Rattle.square_sets.specs.Members.{has}
use Rattle.chess_board.specs.declared.men.Man.{Man}
use Rattle.chess_board.specs.MakeMove.{after_setup}
use Rattle.chess_board.specs.Legality.{is_legal}
use Rattle.chess_board.specs.Moves.{Move}
use Rattle.chess_board.specs.Positions.{Setup, man_at}
use Rattle.chess_board.specs.Soundness.{IsSound}
use Rattle.chess_moves.specs.declared.flights.Flights.{Flights}
use Rattle.chess_moves.specs.inside.CheckSquares.{is_special}
use Rattle.chess_moves.specs.inside.Flights.{AreLastingOf}
use Rattle.chess_moves.specs.inside.Hits.{is_taken, hits_as, is_hit}
use Rattle.chess_moves.specs.Verdicts.{is_mate}
use Rattle.chess_moves.proofs.FlightSquares.{flight_left}

pub lasting_left : (p : Setup) (flights : Flights) (f : ℕ) (man : Man) (m : Move) → AreLastingOf flights p → f < 64 → has flights.squares f ≡ true
    → IsSound (after_setup p m) → m.origin < 64 → m.target < 64 → man_at p.men m.origin ≡ Some man → is_legal p m ≡ true
    → is_special p man m ≡ false → ((taken : ℕ → Bool) → hits_as taken p.side man.kind m.target f ≡ false) → is_mate (after_setup p m) ≡ false
lasting_left p flights f man m lasting f_on there still on t_on here legal plain misses =
    let are = lasting.are in
    let gone = set (set p.men flights.king None) m.origin None in
    let safe : is_hit gone f p.side ≡ false = lasting.lasting f m.origin f_on on there in
    flight_left p flights.king f man m are.sound still are.on_board are.there on t_on here legal plain (are.squares f f_on there)
    (and_from (not (is_hit gone f p.side)) (not (hits_as (λ s. is_taken gone s) p.side man.kind m.target f))
    (ap not safe) (ap not (misses (λ s. is_taken gone s))))
