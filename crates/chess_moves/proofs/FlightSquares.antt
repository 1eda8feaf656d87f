-- The theorem of flight squares: a move that leaves the king a square to step to does not mate.
use Rattle.std.proofs.Common.{◌≡◌, ◌≢◌, ℕ, zero, suc, ◌+◌, ◌<◌, Bool, true, false, cond, not, ◌&&◌, ◌||◌, eqb, List, [], ◌∷◌}
use Rattle.std.proofs.Common.{Option, None, Some, length, count_by, get_or, set, refl, sym, ap, ◌∙◌, arith, length-set}
use Rattle.std.specs.Prelude.{nat_lt, Contains}
use Rattle.std.proofs.lemmas.Bool.{and_from, and_parts, false_from_ne_true, not-true, lt-ltb}
use Rattle.chess_board.specs.declared.men.Colour.{Colour}
use Rattle.chess_board.specs.declared.men.Colour.TheVariants.{White, Black}
use Rattle.chess_board.specs.declared.men.Kind.TheVariants.{King}
use Rattle.chess_board.specs.declared.men.Man.{Man}
use Rattle.chess_board.specs.Squares.{file_gap}
use Rattle.chess_board.specs.Men.{is_colour, is_of, other_side, man_of}
use Rattle.chess_board.specs.inside.KindTests.{is_king_of, is_king_kind}
use Rattle.chess_board.specs.Positions.{Setup, man_at, moved, cleared}
use Rattle.chess_board.specs.Attacks.{attacks_as, is_attacked, is_in_check}
use Rattle.chess_board.specs.Moves.{Move}
use Rattle.chess_board.specs.PseudoLegal.{goes, man_may, is_pseudo_legal, piece_goes}
use Rattle.chess_board.specs.MakeMove.{men_after, after_man, after_setup}
use Rattle.chess_board.specs.Legality.{is_legal, is_safe}
use Rattle.chess_board.specs.Soundness.{IsSound}
use Rattle.chess_board.specs.Castling.{castles}
use Rattle.chess_moves.specs.declared.directions.Leap.TheVariants.{KingStep}
use Rattle.chess_moves.specs.inside.Flights.{IsFlight, leaves_flight}
use Rattle.chess_moves.specs.inside.Hits.{is_taken, hits_as, hits_from, is_hit}
use Rattle.chess_moves.specs.inside.Leaps.{leaps}
use Rattle.chess_moves.specs.inside.Listing.{move_of, legal_moves}
use Rattle.chess_moves.specs.inside.LegalityInfo.{gets_through}
use Rattle.chess_moves.specs.inside.CheckSquares.{is_special}
use Rattle.chess_moves.specs.Verdicts.{has_legal_move, is_mate}
use Rattle.chess_moves.proofs.AnyLemmas.{any_none, any_at}
use Rattle.chess_moves.proofs.Bridge.{attacks_same, attacked_same}
use Rattle.chess_moves.proofs.KingTargets.{king, step_is_near}
use Rattle.chess_moves.proofs.Listed.{legal_listed}
use Rattle.chess_moves.proofs.MovedKings.{IsKingAt, in_check_there, king_goes, king_stays, there_after}
use Rattle.chess_moves.proofs.OneKing.{count_by-cons, king_found, one_king, only_king}
use Rattle.chess_moves.proofs.Placed.{attacks_placed}
use Rattle.chess_moves.proofs.PlainChecks.{hit_placed, plainly, side_back, colour_back}
use Rattle.chess_moves.proofs.OwnColours.{own_is_not_other}
use Rattle.chess_moves.proofs.Played.{played}

-- what is counted is there
counted_some : {X : Type 0} (p : X → Bool) (xs : List X) (d : X) → 0 < count_by p xs → (i : ℕ) × (i < length xs) × (p (get_or xs i d) ≡ true)
counted_some p [] d h = absurd (omega arith)
counted_some p (x ∷ xs) d h = (elim (p x) as (λ b. p x ≡ b → (i : ℕ) × (i < length (x ∷ xs)) × (p (get_or (x ∷ xs) i d) ≡ true)) [
  | true ↦ λ e. (0, omega arith, e)
  | false ↦ λ e.
      let total : 0 < cond (p x) 1 0 + count_by p xs = rw count_by-cons at h in
      let others : 0 < 0 + count_by p xs = rw e at total in
      let rest = counted_some p xs d (omega arith) in (suc rest.0, (let l = rest.1 in omega arith), rest.2)
]) refl

-- a side's king stands somewhere
some_king : (p : Setup) (c : Colour) → IsSound p → (s : ℕ) × (s < 64) × (is_king_of c (man_at p.men s) ≡ true)
some_king p c sound =
    let one = one_king p.men c sound.kings in
    let found = counted_some (is_king_of c) p.men None (omega arith) in
    (found.0, (let l = found.1 in let long = sound.squares in omega arith), found.2)

-- two squares are filled in either order
swapped : {A : Type 0} (l : List A) (i j : ℕ) (a b : A) → i ≢ j → set (set l i a) j b ≡ set (set l j b) i a
swapped [] i j a b apart = refl
swapped (x ∷ l) zero zero a b apart = absurd (apart refl)
swapped (x ∷ l) zero (suc j) a b apart = refl
swapped (x ∷ l) (suc i) zero a b apart = refl
swapped (x ∷ l) (suc i) (suc j) a b apart = ap (λ r. x ∷ r) (swapped l i j a b (λ e. apart (ap suc e)))

own_colour : (c : Colour) → is_colour c c ≡ true
own_colour White = refl
own_colour Black = refl

-- A king may step to a square beside it where no man of its own stands and where it is not attacked then.
pub step_legal : (q : Setup) (k f : ℕ) → length q.men ≡ 64 → IsKingAt q.men q.side k → f < 64 → leaps KingStep k f ≡ true
    → is_of q.side (man_at q.men f) ≡ false
    → is_hit (moved q.men k f (king q.side)) f (other_side q.side) ≡ false → is_legal q (move_of k f None) ≡ true
unfolding is_legal is_pseudo_legal is_safe after_setup
step_legal q k f long at f_on beside free safe =
    let m : Move = move_of k f None in
    let near : attacks_as q.men q.side King k f ≡ true = attacks_same q.men q.side King k f at.on_board f_on ∙ beside in
    let steps : piece_goes q q.side King k f ≡ true =
    and_from (attacks_as q.men q.side King k f) (not (is_of q.side (man_at q.men f))) near (ap not free) in
    let gone : goes q q.side King k f ≡ true = ap (λ (x : Bool). x || castles q q.side k f) steps in
    let may : man_may q (Some (king q.side)) m ≡ true = ap (λ (x : Bool). (x && true) && goes q q.side King k f) (own_colour q.side) ∙ gone in
    let candidate : man_may q (man_at q.men k) m ≡ true = ap (λ place. man_may q place m) at.here ∙ may in
    let two : eqb (file_gap k f) 2 ≡ false = step_is_near q.men q.side k f near in
    let stepped : men_after q (king q.side) m ≡ moved q.men k f (king q.side) = rw two refl in
    let after : (after_man q (man_at q.men k) m).men ≡ moved q.men k f (king q.side) = ap (λ place. (after_man q place m).men) at.here ∙ stepped in
    let checked : is_in_check (after_man q (man_at q.men k) m).men q.side ≡ false = ap (λ men. is_in_check men q.side) after
    ∙ in_check_there (moved q.men k f (king q.side)) q.side f (king_goes q.men q.side k f long f_on at) ∙ safe in
    and_from (man_may q (man_at q.men k) m) (not (is_in_check (after_man q (man_at q.men k) m).men q.side)) candidate (ap not checked)

-- Once a man went from o to t and the king from k to f, f is attacked neither by the other men nor by that one.
still_safe : (men : List (Option Man)) (k o t f : ℕ) (man : Man) (c : Colour) → length men ≡ 64 → t < 64 → f < 64 → k ≢ o → k ≢ t
    → is_colour (other_side c) man.colour ≡ true
    → is_hit (set (set men k None) o None) f (other_side c) ≡ false
    → hits_as (λ s. is_taken (set (set men k None) o None) s) (other_side c) man.kind t f ≡ false
    → is_hit (moved (moved men o t man) k f (king c)) f (other_side c) ≡ false
unfolding is_hit
still_safe men k o t f man c long t_on f_on off to own safe misses =
    let by : Colour = other_side c in
    let gone : List (Option Man) = set (set men k None) o None in
    let come : List (Option Man) = set gone t (Some man) in
    let len : length gone ≡ 64 = simp length-set long in
    let len1 : length come ≡ 64 = simp length-set long in
    let lifted : set (moved men o t man) k None ≡ come =
    swapped (set men o None) t k (Some man) None (λ e. to (sym e)) ∙ ap (λ x. set x t (Some man)) (swapped men o k None None (λ e. off (sym e))) in
    let unhit : is_hit come f by ≡ false = hit_placed gone t man len t_on by f own safe ∙ misses in
    let none : (a : ℕ) → a < 64 → hits_from come by a f ≡ false = λ a l.
    false_from_ne_true (hits_from come by a f) (λ h. let hit = any_at (λ a. hits_from come by a f) 64 a l h in cc) in
    ap (λ x. is_hit (set x f (Some (king c))) f by) lifted
    ∙ any_none (λ a. hits_from (set come f (Some (king c))) by a f) 64 (λ a l.
    attacks_placed come f (king c) by a f len1 f_on (other_king c)
    ∙ ap (λ x. x && gets_through a f f) (none a l))
  where
    other_king : (c : Colour) → is_colour (other_side c) c ≡ false
    other_king White = refl
    other_king Black = refl

module _ (p : Setup) (k f : ℕ) (man : Man) (m : Move) (sound : IsSound p) (still : IsSound (after_setup p m)) (k_on : k < 64)
    (there : man_at p.men k ≡ man_of (other_side p.side) King) (o_on : m.origin < 64) (t_on : m.target < 64)
    (here : man_at p.men m.origin ≡ Some man) (legal : is_legal p m ≡ true) (plain : is_special p man m ≡ false) where
  own : is_colour p.side man.colour ≡ true
  own =
      let by = played p m legal in
      let same : by.0 ≡ man = let is = by.1.there in cc in
      colour_back man.colour p.side (ap (λ x. is_colour x.colour p.side) (sym same) ∙ by.1.own)

  no_king : is_king_of (other_side p.side) (Some man) ≡ false
  no_king = ap (λ x. x && is_king_kind man.kind) (own_is_not_other p.side man.colour own)

  pub men_are : (after_setup p m).men ≡ moved p.men m.origin m.target man
  unfolding after_setup
  men_are = ap (λ place. (after_man p place m).men) here ∙ plainly p man m plain

  pub side_is : (after_setup p m).side ≡ other_side p.side
  unfolding after_setup
  side_is = ap (λ place. (after_man p place m).side) here

  king_here : is_king_of (other_side p.side) (man_at p.men k) ≡ true
  king_here = king_found p.men (other_side p.side) k there

  alone : (s : ℕ) → s < 64 → is_king_of (other_side p.side) (man_at p.men s) ≡ true → s ≡ k
  alone s l is = only_king p sound (other_side p.side) k s k_on l there is

  pub not_left : k ≢ m.origin
  not_left same =
      let one = ap (λ s. is_king_of (other_side p.side) (man_at p.men s)) same in
      let none = ap (is_king_of (other_side p.side)) here ∙ no_king in
      let is = king_here in absurd (cc)

  -- the king is not captured
  pub not_taken : k ≢ m.target
  not_taken same =
      let c : Colour = other_side p.side in
      let found = some_king (after_setup p m) c still in
      let on = found.1 in
      let is : is_king_of c (man_at (moved p.men m.origin m.target man) found.0) ≡ true =
      ap (λ men. is_king_of c (man_at men found.0)) (sym men_are) ∙ found.2 in
      there_after (λ place. is_king_of c place ≡ true → ⊥) p.men m.origin m.target man found.0 sound.squares on
      (λ e h. let none = no_king in absurd (cc)) (λ h. absurd (cc)) (λ off to h. to (alone found.0 on h ∙ same)) is

  -- A move after which a square beside the king is attacked neither by the man that moved nor by another does not mate.
  pub flight_left : IsFlight p k f → leaves_flight p k m.origin man.kind m.target f ≡ true → is_mate (after_setup p m) ≡ false
  flight_left flight leaves =
      let q : Setup = after_setup p m in
      let c : Colour = other_side p.side in
      let back : other_side c ≡ p.side = side_back p.side in
      let gone : List (Option Man) = set (set p.men k None) m.origin None in
      let parts = and_parts (not (is_hit gone f p.side)) (not (hits_as (λ s. is_taken gone s) p.side man.kind m.target f)) leaves in
      let safe : is_hit gone f (other_side c) ≡ false = ap (is_hit gone f) back ∙ not-true (is_hit gone f p.side) parts.0 in
      let misses : hits_as (λ s. is_taken gone s) (other_side c) man.kind m.target f ≡ false =
      ap (λ (by : Colour). hits_as (λ s. is_taken gone s) by man.kind m.target f) back
      ∙ not-true (hits_as (λ s. is_taken gone s) p.side man.kind m.target f) parts.1 in
      let mine : is_colour (other_side c) man.colour ≡ true = ap (λ (by : Colour). is_colour by man.colour) back ∙ own in
      let unhit = still_safe p.men k m.origin m.target f man c sound.squares t_on flight.on_board not_left not_taken mine safe misses in
      let at : IsKingAt (moved p.men m.origin m.target man) c k =
      king_stays p.men c k m.origin m.target man sound.squares (record { on_board = k_on; here = there; alone = alone }) not_left not_taken no_king in
      let free : is_of c (man_at (moved p.men m.origin m.target man) f) ≡ false =
      there_after (λ place. is_of c place ≡ false) p.men m.origin m.target man f sound.squares flight.on_board
      (λ e. own_is_not_other p.side man.colour own) refl (λ off to. flight.free) in
      let step = step_legal q k f still.squares
      (rw (men_are, side_is) at) flight.on_board flight.beside (rw (men_are, side_is) free) (rw (men_are, side_is) unhit) in
      let listed : Contains (legal_moves q) (move_of k f None) = (legal_listed q (move_of k f None)).1 (k_on, flight.on_board, step) in
      let some : has_legal_move q ≡ true = found (legal_moves q) (move_of k f None) listed in
      rw some (no_mate (is_in_check q.men q.side))
    where
      found : (ms : List Move) (n : Move) → Contains ms n → nat_lt 0 (length ms) ≡ true
      found ms n (j, on, e) = lt-ltb 0 (length ms) (omega arith)

      no_mate : (b : Bool) → (b && not true) ≡ false
      no_mate true = refl
      no_mate false = refl

  -- The same over the definitions of attack themselves: beside the king stands a square with no man of its side; with the king and
  -- the man that moves lifted off the board no other man attacks it, nor does that man from where it goes. Then it does not mate.
  pub flight_squares : f < 64 → attacks_as p.men (other_side p.side) King k f ≡ true → is_of (other_side p.side) (man_at p.men f) ≡ false
      → is_attacked (cleared p.men k) f p.side ≡ false → is_attacked (cleared (cleared p.men k) m.origin) f p.side ≡ false
      → attacks_as (cleared (cleared p.men k) m.origin) p.side man.kind m.target f ≡ false → is_mate (after_setup p m) ≡ false
  flight_squares f_on beside free before safe misses =
      let gone : List (Option Man) = cleared (cleared p.men k) m.origin in
      let unhit : is_hit gone f p.side ≡ false = sym (attacked_same gone f p.side f_on) ∙ safe in
      let off : hits_as (λ s. is_taken gone s) p.side man.kind m.target f ≡ false =
      sym (attacks_same gone p.side man.kind m.target f t_on f_on) ∙ misses in
      flight_left (record {
        on_board = f_on;
        beside = sym (attacks_same p.men (other_side p.side) King k f k_on f_on) ∙ beside;
        free = free;
        safe = sym (attacked_same (cleared p.men k) f p.side f_on) ∙ before;
      }) (and_from (not (is_hit gone f p.side)) (not (hits_as (λ s. is_taken gone s) p.side man.kind m.target f)) (ap not unhit) (ap not off))
