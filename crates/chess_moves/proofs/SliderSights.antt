-- Sliders on lines with a square: which of them see it, and which man alone keeps one of them from it.
use Rattle.std.proofs.Common.{◌≡◌, ℕ, ◌^◌, ◌<◌, Bool, true, false, not, ◌&&◌, refl, sym, ap, ◌∙◌, eqb, bit_and}
use Rattle.std.proofs.lemmas.Bool.{eqb-true, eqb-false, eq-eqb, and_from, not-false}
use Rattle.square_sets.specs.Members.{has}
use Rattle.square_sets.specs.BitScan.{IsLowest}
use Rattle.chess_board.specs.Squares.{any_below}
use Rattle.chess_moves.specs.declared.directions.Direction.{Direction}
use Rattle.chess_moves.specs.declared.directions.Direction.TheVariants.{North, NorthEast, East, SouthEast, South, SouthWest, West, NorthWest}
use Rattle.chess_moves.specs.inside.Directions.{toward, is_blocked, reaches, reaches_as_bishop, reaches_as_rook}
use Rattle.chess_moves.specs.inside.Directions.{is_on_diagonal, is_on_straight, stands_between}
use Rattle.chess_moves.specs.inside.SliderLines.{is_open, IsAlone, IsAloneIn}
use Rattle.chess_moves.proofs.AnyLemmas.{any_same, any_none}
use Rattle.chess_moves.proofs.Compass.{between_from, between_in}
use Rattle.chess_moves.proofs.Connectives.{same_tests, four_and}
use Rattle.chess_moves.proofs.SetBits.{has_and}
use Rattle.chess_moves.proofs.SharedSquares.{nonzero}

-- a set with no square is zero
pub empty_is_zero : (set : ℕ) → set < 2 ^ 64 → ((s : ℕ) → s < 64 → has set s ≡ false) → set ≡ 0
empty_is_zero set fits none =
    let e : not (eqb set 0) ≡ false = nonzero set fits ∙ any_none (has set) 64 none in
    eqb-true set 0 (not-false (eqb set 0) e)

-- a set of one square is that square and nothing
pub alone_lowest : (set first rest o : ℕ) → rest < 2 ^ 64 → IsLowest first set
    → ((s : ℕ) → s < 64 → has rest s ≡ (not (eqb s first) && has set s)) → IsAloneIn set o → rest ≡ 0
alone_lowest set first rest o fits lowest others alone =
    let same : first ≡ o = eqb-true first o ((elim (eqb first o) as (λ b. eqb first o ≡ b → b ≡ true) [
      | true ↦ λ e. refl
      | false ↦ λ e. sym (alone.others first lowest.on_board (eqb-false first o e)) ∙ lowest.there
    ]) refl) in
    empty_is_zero rest fits (λ s l. others s l ∙ ((elim (eqb s first) as (λ b. eqb s first ≡ b → (not b && has set s) ≡ false) [
      | true ↦ λ e. refl
      | false ↦ λ e. alone.others s l (λ x. let y : eqb s first ≡ true = eq-eqb s first (x ∙ sym same) in cc)
    ]) refl))

-- in the direction of b, what is blocked is what is not open
blocked_open : (taken : ℕ → Bool) (d : Direction) (a b : ℕ) → toward d a b ≡ true
    → is_blocked taken d a b ≡ any_below 64 (λ s. stands_between a b s && taken s)
blocked_open taken d a b line = any_same (λ s. toward d a s && toward d s b && taken s) (λ s. stands_between a b s && taken s) 64
    (λ s l. ap (λ x. x && taken s)
    (same_tests (toward d a s && toward d s b) (stands_between a b s) (between_from d a b s) (between_in d a b s line)))

reaches_open : (taken : ℕ → Bool) (d : Direction) (a b : ℕ) → reaches taken d a b ≡ (toward d a b && is_open taken a b)
reaches_open taken d a b = (elim (toward d a b) as (λ b'. toward d a b ≡ b' → (b' && not (is_blocked taken d a b)) ≡ (b' && is_open taken a b)) [
  | true ↦ λ e. ap not (blocked_open taken d a b e)
  | false ↦ λ e. refl
]) refl

pub slants_open : (taken : ℕ → Bool) (a b : ℕ) → (is_on_diagonal a b && is_open taken a b) ≡ reaches_as_bishop taken a b
unfolding is_on_diagonal reaches_as_bishop
slants_open taken a b =
    let r = λ (d : Direction). reaches_open taken d a b in
    sym (four_and (toward NorthEast a b) (toward SouthEast a b) (toward SouthWest a b) (toward NorthWest a b) (is_open taken a b))
    ∙ (rw (r NorthEast, r SouthEast, r SouthWest, r NorthWest) refl)

pub straight_open : (taken : ℕ → Bool) (a b : ℕ) → (is_on_straight a b && is_open taken a b) ≡ reaches_as_rook taken a b
unfolding is_on_straight reaches_as_rook
straight_open taken a b =
    let r = λ (d : Direction). reaches_open taken d a b in
    sym (four_and (toward North a b) (toward East a b) (toward South a b) (toward West a b) (is_open taken a b))
    ∙ (rw (r North, r East, r South, r West) refl)

-- three tests grouped otherwise
pub grouped : (x y z : Bool) → ((x && y) && z) ≡ (x && (y && z))
grouped true y z = refl
grouped false y z = refl

-- nothing that is taken stands between where the two sets share no square
pub nothing_between : (between occupied a b : ℕ) → bit_and between occupied < 2 ^ 64 → ((t : ℕ) → t < 64 → has between t ≡ stands_between a b t)
    → eqb (bit_and between occupied) 0 ≡ is_open (has occupied) a b
nothing_between between occupied a b fits rule =
    let e : not (eqb (bit_and between occupied) 0) ≡ any_below 64 (λ s. stands_between a b s && has occupied s) =
    nonzero (bit_and between occupied) fits
    ∙ any_same (has (bit_and between occupied)) (λ s. stands_between a b s && has occupied s) 64
    (λ s l. has_and between occupied s ∙ ap (λ x. x && has occupied s) (rule s l)) in
    turned (eqb (bit_and between occupied) 0) _ e
  where
    turned : (x y : Bool) → not x ≡ y → x ≡ not y
    turned true y e = ap not e
    turned false y e = ap not e

-- and one square where a man stands alone
pub alone_shared : (between occupied a b o : ℕ) → o < 64 → ((t : ℕ) → t < 64 → has between t ≡ stands_between a b t) → IsAlone (has occupied) a b o
    → IsAloneIn (bit_and between occupied) o
alone_shared between occupied a b o on rule alone = record {
  there = has_and between occupied o ∙ and_from (has between o) (has occupied o) (rule o on ∙ alone.between) alone.there;
  others = λ s l ne. has_and between occupied s ∙ ap (λ x. x && has occupied s) (rule s l) ∙ alone.others s l ne;
}

-- it depends on the squares of the board alone
pub alone_same : (p q : ℕ → Bool) → ((s : ℕ) → s < 64 → p s ≡ q s) → (a b o : ℕ) → o < 64 → IsAlone p a b o → IsAlone q a b o
alone_same p q same a b o on alone = record {
  between = alone.between;
  there = sym (same o on) ∙ alone.there;
  others = λ s l ne. ap (λ x. stands_between a b s && x) (sym (same s l)) ∙ alone.others s l ne;
}
