-- The defender's replies, those of its king and those of its other men.
use Rattle.std.proofs.Common.{◌≡◌, ℕ, ◌<◌, ◌^◌, Bool, true, false, not, ◌&&◌, ◌||◌, List, [], ◌∷◌, Option, None, Some, refl, ap, ◌∙◌, arith, w64}
use Rattle.std.specs.Prelude.{nat_lt, length, filter, if◌then◌else◌}
use Rattle.std.specs.List.{list_all}
use Rattle.std.specs.Int.{bit_not}
use Rattle.std.specs.Int.RustNames.{bit_and}
use Rattle.std.proofs.lemmas.Nat.Bits.{bit_at-zero}
use Rattle.std.proofs.lemmas.Bool.{and_parts, lt-ltb, false_from_ne_true}
use Rattle.chess_board.specs.declared.men.Colour.{Colour}
use Rattle.chess_board.specs.declared.men.Colour.TheVariants.{White, Black}
use Rattle.chess_board.specs.declared.men.Kind.TheVariants.{King}
use Rattle.chess_board.specs.declared.men.Man.{Man}
use Rattle.chess_board.specs.Men.{is_colour, is_of, is_man}
use Rattle.chess_board.specs.Moves.{Move}
use Rattle.chess_board.specs.Positions.{Setup, man_at}
use Rattle.chess_board.specs.Sets.{IsSetOf}
use Rattle.chess_board.specs.PseudoLegal.{goes, suits, man_may, is_pseudo_legal}
use Rattle.chess_board.specs.Attacks.{is_in_check}
use Rattle.chess_board.specs.MakeMove.{after_setup}
use Rattle.chess_board.specs.Legality.{is_safe, is_legal}
use denote.Enum.Bare.{sameb}
use Rattle.chess_moves.specs.contracts.verdicts.Verdict.{the_type as verdict_type}
use Rattle.chess_moves.specs.Laws.{LegalListed}
use Rattle.chess_moves.specs.declared.verdicts.Verdict.TheVariants.{Play, Mate, Stalemate}
use Rattle.chess_moves.specs.inside.Listing.{legal_moves}
use Rattle.chess_moves.specs.Verdicts.{has_legal_move, is_stalemate, verdict_of}
use Rattle.mate_search.specs.Wins.{win, lost}
use Rattle.mate_search.specs.inside.Replies.{is_but_king, is_from, moves_of, each_loses}
use Rattle.mate_search.proofs.Searches.{all_kept, all_contains, contains_all, filter_keeps}
use Rattle.mate_search.proofs.Wins.{no_mate}
use Rattle.mate_search.proofs.OccupancySets.{has_less}

-- A set of squares without those of another.
pub others_are : (men : List (Option Man)) (side mover : Colour) (own king : ℕ) → side ≡ mover → king < 2 ^ 64 → IsSetOf own (is_of side) men
    → IsSetOf king (is_man side King) men → IsSetOf (bit_and own (bit_not w64 king)) (is_but_king mover) men
others_are men side mover own king same fits all kings s l =
    rw (has_less own king s fits l, all s l, kings s l) (ap (λ colour. is_but_king colour (man_at men s)) same)

-- Whoever makes a legal move is of the side to move.
own_origin : (q : Setup) (r : Move) → is_legal q r ≡ true → is_of q.side (man_at q.men r.origin) ≡ true
unfolding is_legal is_pseudo_legal
own_origin q r legal =
    let may : man_may q (man_at q.men r.origin) r ≡ true = (and_parts (is_pseudo_legal q r) (is_safe q r) legal).0 in
    (elim (man_at q.men r.origin) as (λ o. man_at q.men r.origin ≡ o → is_of q.side o ≡ true) [
      | None ↦ λ is. let never = rw is at may in cc
      | Some man ↦ λ is.
          let parts = and_parts (is_colour man.colour q.side && suits man r.target r.promotion)
          (goes q man.colour man.kind r.origin r.target) (rw is at may) in
          turned man.colour q.side (and_parts (is_colour man.colour q.side) (suits man r.target r.promotion) parts.0).0
    ]) refl
  where
    turned : (a b : Colour) → is_colour a b ≡ true → is_colour b a ≡ true
    turned White White h = refl
    turned White Black h = h
    turned Black White h = h
    turned Black Black h = refl

-- Each reply is the king's or another man's.
pub all_replies : LegalListed → (k : ℕ) (q : Setup) (side : Colour) (others king : ℕ) → side ≡ q.side → IsSetOf others (is_but_king q.side) q.men
    → IsSetOf king (is_man side King) q.men → each_loses others k q ≡ true → each_loses king k q ≡ true
    → list_all (λ r. win k (after_setup q r)) (legal_moves q) ≡ true
all_replies listed k q side others king same rest kings lose fall = contains_all (λ r. win k (after_setup q r)) (legal_moves q) (λ r there.
    let legal = (listed q r).0 there in
    let own = own_origin q r legal.2 in
    (elim (is_man q.side King (man_at q.men r.origin)) as (λ b. is_man q.side King (man_at q.men r.origin) ≡ b → win k (after_setup q r) ≡ true) [
      | true ↦ λ e. all_contains (λ s. win k (after_setup q s)) (moves_of king q) r fall
          (filter_keeps (is_from king) (legal_moves q) r there
          (kings r.origin legal.0 ∙ ap (λ colour. is_man colour King (man_at q.men r.origin)) same ∙ e))
      | false ↦ λ e. all_contains (λ s. win k (after_setup q s)) (moves_of others q) r lose
          (filter_keeps (is_from others) (legal_moves q) r there (rest r.origin legal.0 ∙ rw (own, e) refl))
    ]) refl)

-- Where the attacker wins after each reply, only stalemate is no loss.
pub lost_by_all : (k : ℕ) (q : Setup) → list_all (λ r. win k (after_setup q r)) (legal_moves q) ≡ true → lost k q ≡ not (is_stalemate q)
lost_by_all k q all = rw all (by_two (is_in_check q.men q.side) (has_legal_move q))
  where
    by_two : (check moves : Bool) → ((check && not moves) || (moves && true)) ≡ not (not check && not moves)
    by_two true true = refl
    by_two true false = refl
    by_two false true = refl
    by_two false false = refl

-- Whether the verdict is another than stalemate.
pub goes_on : (q : Setup) → not (sameb verdict_type (verdict_of q) Stalemate) ≡ not (is_stalemate q)
goes_on q = by_two (is_in_check q.men q.side) (has_legal_move q)
  where
    by_two : (check moves : Bool)
        → not (sameb verdict_type (if (check && not moves) then Mate else (if (not check && not moves) then Stalemate else Play)) Stalemate)
        ≡ not (not check && not moves)
    by_two true true = refl
    by_two true false = refl
    by_two false true = refl
    by_two false false = refl

-- One man's reply after which the attacker does not win refutes.
pub refuted_by_men : (k : ℕ) (q : Setup) (men : ℕ) → each_loses men k q ≡ false → lost k q ≡ false
refuted_by_men k q men fails =
    let all : list_all (λ s. win k (after_setup q s)) (legal_moves q) ≡ false = false_from_ne_true _ (λ e.
    let won = all_kept (λ s. win k (after_setup q s)) (is_from men) (legal_moves q) (moves_of men q) refl e in cc) in
    let some : has_legal_move q ≡ true = some_of (legal_moves q) all in
    rw (some, all) (no_mate (is_in_check q.men q.side))
  where
    some_of : (ms : List Move) → list_all (λ s. win k (after_setup q s)) ms ≡ false → nat_lt 0 (length ms) ≡ true
    some_of [] e = cc
    some_of (m ∷ ms) e = lt-ltb 0 (length (m ∷ ms)) (omega arith)

-- No men make no moves.
pub none_loses : (k : ℕ) (q : Setup) (men : ℕ) → men ≡ 0 → each_loses men k q ≡ true
none_loses k q men none = rw none (nothing (legal_moves q))
  where
    nothing : (ms : List Move) → list_all (λ r. win k (after_setup q r)) (filter (is_from 0) ms) ≡ true
    nothing [] = refl
    nothing (m ∷ ms) = rw (bit_at-zero m.origin) (nothing ms)
