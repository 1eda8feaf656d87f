-- Sets when one square of the board changes.
use Rattle.std.proofs.Common.{◌≡◌, ◌≢◌, ℕ, ◌<◌, Bool, true, false, not, ◌&&◌, ◌||◌, List, Option, None, Some, refl}
use Rattle.std.proofs.Common.{sym, ap, ◌∙◌, eqb, length, get_or, set, get_or-set_same, get_or-set_other, arith}
use Rattle.std.proofs.lemmas.Bool.{eqb-true, eqb-false, and_left, eq-eqb, ne_eqb}
use Rattle.square_sets.specs.Members.{has}
use Rattle.chess_board.specs.declared.men.Colour.{Colour}
use Rattle.chess_board.specs.declared.men.Kind.{Kind}
use Rattle.chess_board.specs.declared.men.Man.{Man}
use Rattle.chess_board.specs.Men.{is_colour, is_of}
use Rattle.chess_board.specs.inside.KindTests.{is_pawn_kind, is_king_kind}
use Rattle.chess_board.specs.Positions.{man_at}
use Rattle.chess_board.specs.Sets.{IsSetOf}
use Rattle.chess_moves.specs.declared.side_men.SideMen.{SideMen}
use Rattle.chess_moves.specs.inside.SideMen.{is_knight_kind, StandFor, is_one, is_diagonal_kind, is_straight_kind}

-- the square that changed, and the others
stands_after : (test : Option Man → Bool) (men : List (Option Man)) (old new square : ℕ) (place : Option Man) → length men ≡ 64 → square < 64
    → has new square ≡ test place → ((t : ℕ) → t < 64 → t ≢ square → has new t ≡ has old t)
    → IsSetOf old test men → IsSetOf new test (set men square place)
stands_after test men old new square place len on there others stands t l =
    (elim (eqb t square) as (λ b. eqb t square ≡ b → has new t ≡ test (get_or (set men square place) t None)) [
      | true ↦ λ e. let same = eqb-true t square e in let within : square < length men = omega arith in rw same (rw get_or-set_same there)
      | false ↦ λ e. let ne = eqb-false t square e in rw get_or-set_other (others t l ne ∙ stands t l)
    ]) refl

eqb_self : (t : ℕ) → eqb t t ≡ true
eqb_self t = eq-eqb t t refl

-- a square of the set is cleared
pub stands_without : (test : Option Man → Bool) (men : List (Option Man)) (old new square : ℕ) (place : Option Man) → length men ≡ 64 → square < 64
    → ((t : ℕ) → t < 64 → has new t ≡ (not (eqb t square) && has old t)) → test place ≡ false
    → IsSetOf old test men → IsSetOf new test (set men square place)
stands_without test men old new square place len on cleared none stands =
    stands_after test men old new square place len on
    (cleared square on ∙ ap (λ b. not b && has old square) (eqb_self square) ∙ sym none)
    (λ t l ne. cleared t l ∙ ap (λ b. not b && has old t) (ne_eqb t square ne)) stands

-- a square of the set is filled
pub stands_with : (test : Option Man → Bool) (men : List (Option Man)) (old new square : ℕ) (place : Option Man) → length men ≡ 64 → square < 64
    → ((t : ℕ) → t < 64 → has new t ≡ (eqb t square || has old t)) → test place ≡ true
    → IsSetOf old test men → IsSetOf new test (set men square place)
stands_with test men old new square place len on filled one stands =
    stands_after test men old new square place len on
    (filled square on ∙ ap (λ b. b || has old square) (eqb_self square) ∙ sym one)
    (λ t l ne. filled t l ∙ ap (λ b. b || has old t) (ne_eqb t square ne)) stands

-- neither what stood there nor what stands there now is of the set
stands_still : (test : Option Man → Bool) (men : List (Option Man)) (old square : ℕ) (place : Option Man) → length men ≡ 64 → square < 64
    → test (man_at men square) ≡ false → test place ≡ false
    → IsSetOf old test men → IsSetOf old test (set men square place)
stands_still test men old square place len on before now stands =
    stands_after test men old old square place len on (stands square on ∙ before ∙ sym now) (λ t l ne. refl) stands

-- a man of the other side is in none of this side's sets
pub is_one-not_of : (by : Colour) (test : Kind → Bool) (place : Option Man) → is_of by place ≡ false → is_one by test place ≡ false
is_one-not_of by test None h = refl
is_one-not_of by test (Some man) h = and_left (is_colour by man.colour) (test man.kind) h

-- this side's sets stay where no man of it came or went
pub stand_still : (side_men : SideMen) (by : Colour) (men : List (Option Man)) (square : ℕ) (place : Option Man) → length men ≡ 64 → square < 64
    → is_of by (man_at men square) ≡ false → is_of by place ≡ false → StandFor side_men by men → StandFor side_men by (set men square place)
stand_still side_men by men square place len on before now sets = record {
  pawns = still is_pawn_kind side_men.pawns sets.pawns;
  knights = still is_knight_kind side_men.knights sets.knights;
  diagonal = still is_diagonal_kind side_men.diagonal sets.diagonal;
  straight = still is_straight_kind side_men.straight sets.straight;
  king = still is_king_kind side_men.king sets.king;
}
  where
    still : (test : Kind → Bool) (word : ℕ) → IsSetOf word (is_one by test) men → IsSetOf word (is_one by test) (set men square place)
    still test word =
        stands_still (is_one by test) men word square place len on
        (is_one-not_of by test (man_at men square) before) (is_one-not_of by test place now)
