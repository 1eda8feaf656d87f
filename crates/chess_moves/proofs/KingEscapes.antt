-- A king that steps where no man of the other side has a line, and which each of them leaves a square then, is not mated at once.
use Rattle.std.proofs.Common.{◌≡◌, ℕ, ◌<◌, Bool, true, false, not, ◌&&◌, eqb, List, Option, None, Some, length, refl, sym, ap, ◌∙◌, set}
use Rattle.std.proofs.Common.{inl, inr, [], ◌∷◌, arith, length-set}
use Rattle.std.specs.Prelude.{Contains}
use Rattle.std.specs.Int.{bit_not}
use Rattle.std.proofs.Common.{◌^◌, is_some, bit_and, w64}
use Rattle.std.specs.List.{list_any}
use Rattle.std.proofs.lemmas.List.Elements.{Contains-append_right}
use Rattle.std.proofs.lemmas.Bool.{and_parts, both_ways, cases_eq, not-true}
use Rattle.square_sets.specs.Members.{has}
use Rattle.chess_board.specs.declared.men.Colour.{Colour}
use Rattle.chess_board.specs.declared.men.Colour.TheVariants.{White, Black}
use Rattle.chess_board.specs.declared.men.Kind.{Kind}
use Rattle.chess_board.specs.declared.men.Kind.TheVariants.{Pawn, Knight, Bishop, Rook, Queen, King}
use Rattle.chess_board.specs.declared.men.Man.{Man}
use Rattle.chess_board.specs.inside.KindTests.{is_king_kind, is_king_of}
use Rattle.chess_board.specs.EnPassant.{is_square}
use Rattle.chess_board.specs.Legality.{is_legal}
use Rattle.chess_board.specs.MakeMove.{after_setup, after_man, men_after}
use Rattle.chess_board.specs.Men.{is_colour, is_kind, is_man, is_of, other_side, man_of}
use Rattle.chess_board.specs.Moves.{Move}
use Rattle.chess_board.specs.Positions.{Setup, man_at, moved}
use Rattle.chess_board.specs.Soundness.{IsSound}
use Rattle.chess_board.specs.Squares.{file_gap}
use Rattle.chess_moves.specs.declared.directions.Leap.TheVariants.{KingStep}
use Rattle.chess_moves.specs.declared.flights.Flights.{Flights}
use Rattle.chess_moves.specs.Escapes.{Escape}
use Rattle.chess_moves.specs.Verdicts.{is_mate, has_mating_move}
use Rattle.chess_moves.specs.inside.EscapeSquares.{HasPlainMen, IsRefuge, IsStep, Misses}
use Rattle.chess_moves.specs.inside.Flights.{AreLastingOf}
use Rattle.chess_moves.specs.inside.Hits.{is_taken, hits_as, is_hit, place_hits}
use Rattle.chess_moves.specs.inside.Leaps.{leaps}
use Rattle.chess_moves.specs.inside.Listing.{move_of, legal_moves}
use Rattle.chess_moves.proofs.Bridge.{attacks_same}
use Rattle.chess_moves.proofs.FlightSquares.{step_legal}
use Rattle.chess_moves.proofs.InLine.{none_without, unhit}
use Rattle.chess_moves.proofs.KingTargets.{king, step_is_near}
use Rattle.chess_moves.proofs.Lasting.{lasting_left}
use Rattle.chess_moves.proofs.Listed.{legal_listed}
use Rattle.chess_moves.proofs.Mates.{no_mate}
use Rattle.chess_moves.proofs.MovedKings.{IsKingAt, king_goes, there_after}
use Rattle.chess_moves.proofs.OneKing.{only_king}
use Rattle.chess_moves.proofs.PlainMen.{is_one, plain, royal_step}
use Rattle.chess_moves.proofs.Played.{played}
use Rattle.chess_moves.proofs.PlainChecks.{lifted_check, side_back}
use Rattle.chess_moves.proofs.SetBits.{has_less}

other_king : (c : Colour) → is_colour (other_side c) c ≡ false
other_king White = refl
other_king Black = refl

no_self : (k : ℕ) → leaps KingStep k k ≡ false
unfolding leaps
no_self k = grind (arith)

pub king_is : (c : Colour) (place : Option Man) → is_man c King place ≡ true → is_king_of c place ≡ true
king_is c None h = h
king_is c (Some man) h = same_kind man.kind h
  where
    same_kind : (kind : Kind) → (is_colour c man.colour && is_kind King kind) ≡ true → (is_colour c man.colour && is_king_kind kind) ≡ true
    same_kind Pawn h = h
    same_kind Knight h = h
    same_kind Bishop h = h
    same_kind Rook h = h
    same_kind Queen h = h
    same_kind King h = h

pub none_there : (place : Option Man) → is_some place ≡ false → place ≡ None
none_there None h = refl
none_there (Some man) h = absurd (cc)

-- A square of the one set that stands in neither of the others.
pub stepped_free : (near others in_line g : ℕ) → others < 2 ^ 64 → in_line < 2 ^ 64 → g < 64
    → has (bit_and (bit_and near (bit_not w64 others)) (bit_not w64 in_line)) g ≡ true
    → (has near g ≡ true) × ((has others g ≡ false) × (has in_line g ≡ false))
stepped_free near others in_line g fits fits_too on is =
    let all = sym (has_less (bit_and near (bit_not w64 others)) in_line g fits_too on) ∙ is in
    let outer = and_parts (has (bit_and near (bit_not w64 others)) g) (not (has in_line g)) all in
    let inner = and_parts (has near g) (not (has others g)) (sym (has_less near others g fits on) ∙ outer.0) in
    (inner.0, (not-true (has others g) inner.1, not-true (has in_line g) outer.1))

-- Where no listed move mates, none does.
none_listed_mates : (f : Move → Bool) (xs : List Move) → ((m : Move) → Contains xs m → f m ≡ false) → list_any f xs ≡ false
none_listed_mates f [] h = refl
none_listed_mates f (x ∷ xs) h = let here = h x (0, omega arith, refl) in let rest = none_listed_mates f xs (λ m c. h m (Contains-append_right (x ∷ []) xs m c)) in rw (here, rest) refl

module _ (p : Setup) (f block : ℕ) (refuge : IsRefuge block p p.side f)
    (still : (q : Setup) (m : Move) → IsSound q → m.origin < 64 → m.target < 64 → is_legal q m ≡ true → IsSound (after_setup q m)) where
  abbrev by : Colour
  by = other_side p.side

  abbrev k : ℕ
  k = refuge.from

  abbrev step : IsStep p p.side k f
  step = refuge.step

  abbrev go : Move
  go = move_of k f None

  long : length p.men ≡ 64
  long = step.sound.squares

  at : IsKingAt p.men p.side k
  at = record {
    on_board = step.king_on_board;
    here = step.king;
    alone = λ s on is. only_king p step.sound p.side k s step.king_on_board on step.king is;
  }

  abbrev men : List (Option Man)
  men = moved p.men k f (king p.side)

  -- The king hits nothing for the other side, and no other man came.
  none_hit : (t : ℕ) → t < 64 → has block t ≡ true → (taken : ℕ → Bool) (a : ℕ) → a < 64 → place_hits taken by (man_at men a) a t ≡ false
  none_hit t on there taken a l =
      there_after (λ place. place_hits taken by place a t ≡ false) p.men k f (king p.side) a long l
      (λ e. ap (λ x. x && hits_as taken by King a t) (other_king p.side)) refl (λ o to. refuge.clear t on there taken a l)

  legal : is_legal p go ≡ true
  legal = step_legal p k f long at step.on_board step.beside (ap (is_of p.side) step.free) (unhit men by f (none_hit f step.on_board refuge.here))

  abbrev q : Setup
  q = after_setup p go

  near : eqb (file_gap k f) 2 ≡ false
  near = step_is_near p.men p.side k f (attacks_same p.men p.side King k f step.king_on_board step.on_board ∙ step.beside)

  men_are : q.men ≡ men
  unfolding after_setup
  men_are =
      let stepped : men_after p (king p.side) go ≡ men = rw near refl in
      ap (λ place. (after_man p place go).men) step.king ∙ stepped

  side_is : q.side ≡ by
  unfolding after_setup
  side_is = ap (λ place. (after_man p place go).side) step.king

  target_is : q.target ≡ None
  unfolding after_setup
  target_is = ap (λ place. (after_man p place go).target) step.king

  there : man_at q.men f ≡ man_of (other_side q.side) King
  there = rw (men_are, side_is, side_back p.side) (king_goes p.men p.side k f long step.on_board at).here

  sound : IsSound q
  sound = still p go step.sound step.king_on_board step.on_board legal

  none_of : (t : ℕ) → t < 64 → has block t ≡ true → (taken : ℕ → Bool) (a : ℕ) → a < 64 → place_hits taken q.side (man_at q.men a) a t ≡ false
  none_of = rw (men_are, side_is) none_hit

  abbrev flights : Flights
  flights = record { king = f; squares = refuge.lasting }

  free_after : (g : ℕ) → g < 64 → has refuge.lasting g ≡ true → is_of (other_side q.side) (man_at q.men g) ≡ false
  free_after g on is = rw (men_are, side_is, side_back p.side) (there_after (λ place. is_of p.side place ≡ false) p.men k f (king p.side) g long on
      (λ e. absurd (both_ways _ (no_self f) (ap (leaps KingStep f) (sym e) ∙ refuge.near g on is))) refl
      (λ o to. refuge.free g on is (λ e. o (sym e))))

  lasts : AreLastingOf flights q
  lasts = record {
    are = record {
      on_board = step.on_board;
      there = there;
      squares = λ g on is. record {
        on_board = on;
        beside = refuge.near g on is;
        free = free_after g on is;
        safe = unhit (set q.men f None) q.side g (none_without q.men q.side g f sound.squares step.on_board (none_of g on (refuge.kept g on is)));
      };
      sound = sound;
    };
    lasting = λ g o on o_on is.
        let len : length (set q.men f None) ≡ 64 = let l = sound.squares in simp length-set l in
        unhit (set (set q.men f None) o None) q.side g (none_without (set q.men f None) q.side g o len o_on
        (none_without q.men q.side g f sound.squares step.on_board (none_of g on (refuge.kept g on is))));
  }

  -- Each man of the other side that stands there afterwards stood there before.
  stood : (asked : Kind) (o : ℕ) → o < 64 → is_man by asked (man_at q.men o) ≡ true → is_man by asked (man_at p.men o) ≡ true
  stood asked o on = rw men_are (there_after (λ place. is_man by asked place ≡ true → is_man by asked (man_at p.men o) ≡ true)
      p.men k f (king p.side) o long on
      (λ e h. absurd (both_ways _ (other_king p.side) (and_parts (is_colour by p.side) (is_kind asked King) h).0))
      (λ h. absurd (cc)) (λ off to h. h))

  plain_men : HasPlainMen q.side q
  plain_men = rw side_is (record {
    pawns = λ o on is. refuge.plain.pawns o on (stood Pawn o on is);
    king = λ o on is. refuge.plain.king o on (stood King o on is);
  })

  quiet : (m : Move) → m.origin < 64 → m.target < 64 → is_legal q m ≡ true → is_mate (after_setup q m) ≡ false
  quiet m on t_on ok =
      let played_man = played q m ok in
      let man : Man = played_man.0 in
      let here = played_man.1.there in
      let one : is_man by man.kind (man_at q.men m.origin) ≡ true =
      ap (λ (c : Colour). is_man c man.kind (man_at q.men m.origin)) (sym side_is) ∙ is_one q m man here ok on plain_men in
      let from : Misses block by man.kind m.target = refuge.missed man.kind m.origin m.target on t_on (stood man.kind m.origin on one) (λ e.
      sym (attacks_same q.men man.colour King m.origin m.target on t_on) ∙ royal_step q m man here ok on plain_men e) in
      let no_special = plain q m man here ok on plain_men (λ e. ap (λ (x : Option ℕ). is_square x m.target) target_is) in
      let misses : (taken : ℕ → Bool) → hits_as taken q.side man.kind m.target from.missed ≡ false = λ taken.
      ap (λ (c : Colour). hits_as taken c man.kind m.target from.missed) side_is ∙ from.misses taken in
      elim (cases_eq from.missed f) [
        | inl e ↦
            let taken : ℕ → Bool = λ s. is_taken (set q.men m.origin None) s in
            let clear : is_hit (set q.men m.origin None) f q.side ≡ false = unhit (set q.men m.origin None) q.side f
            (none_without q.men q.side f m.origin sound.squares on (none_of f step.on_board refuge.here)) in
            no_mate q m (lifted_check q f man m sound step.on_board there on t_on here ok clear no_special
            ∙ ap (λ s. hits_as taken q.side man.kind m.target s) (sym e) ∙ misses taken)
        | inr apart ↦ lasting_left q flights from.missed man m lasts from.on_board (refuge.parts from.missed from.on_board from.there apart)
            (still q m sound on t_on ok) on t_on here ok no_special misses
      ]

  pub escape : Escape p
  unfolding has_mating_move
  escape = record {
    reply = go;
    origin = step.king_on_board;
    target = step.on_board;
    legal = legal;
    unmated = none_listed_mates (λ m. is_mate (after_setup q m)) (legal_moves q) (λ m c.
        let listed = (legal_listed q m).0 c in quiet m listed.0 listed.1 listed.2);
  }
