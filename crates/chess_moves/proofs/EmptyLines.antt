-- What lies on no line with a square is not seen from it, whatever stands between.
use Rattle.std.proofs.Common.{◌≡◌, ℕ, Bool, true, false, not, ◌&&◌, ◌||◌, refl, sym, ◌∙◌}
use Rattle.std.proofs.lemmas.Bool.{and_left}
use Rattle.std.specs.Int.RustNames.{bit_and}
use Rattle.square_sets.specs.Members.{has}
use Rattle.chess_moves.specs.declared.directions.Direction.{Direction}
use Rattle.chess_moves.specs.declared.directions.Direction.TheVariants.{North, NorthEast, East, SouthEast, South, SouthWest, West, NorthWest}
use Rattle.chess_moves.specs.inside.Directions.{toward, is_blocked, reaches, reaches_as_bishop, reaches_as_rook, is_on_diagonal, is_on_straight}
use Rattle.chess_moves.proofs.SetParts.{part}
use Rattle.chess_moves.proofs.AttackSets.{slants_back, straight_back}
use Rattle.chess_moves.proofs.Removed.{four_none}
use Rattle.chess_moves.proofs.SetBits.{has_none}

not_along : (taken : ℕ → Bool) (d : Direction) (a b : ℕ) → toward d a b ≡ false → reaches taken d a b ≡ false
not_along taken d a b none = and_left (toward d a b) (not (is_blocked taken d a b)) none

pub no_slant : (taken : ℕ → Bool) (square t : ℕ) → is_on_diagonal square t ≡ false → reaches_as_bishop taken square t ≡ false
unfolding is_on_diagonal reaches_as_bishop
no_slant taken square t none =
    let no = four_none (toward NorthEast square t) (toward SouthEast square t) (toward SouthWest square t) (toward NorthWest square t) none in
    let r = not_along taken in
    rw (r NorthEast square t no.0, r SouthEast square t no.1, r SouthWest square t no.2, r NorthWest square t no.3) refl

pub no_straight : (taken : ℕ → Bool) (square t : ℕ) → is_on_straight square t ≡ false → reaches_as_rook taken square t ≡ false
unfolding is_on_straight reaches_as_rook
no_straight taken square t none =
    let no = four_none (toward North square t) (toward East square t) (toward South square t) (toward West square t) none in
    let r = not_along taken in
    rw (r North square t no.0, r East square t no.1, r South square t no.2, r West square t no.3) refl

pub off_diagonals : (taken : ℕ → Bool) (square t : ℕ) → is_on_diagonal square t ≡ false → reaches_as_bishop taken t square ≡ false
off_diagonals taken square t none = sym (slants_back taken t square) ∙ no_slant taken square t none

pub off_straights : (taken : ℕ → Bool) (square t : ℕ) → is_on_straight square t ≡ false → reaches_as_rook taken t square ≡ false
off_straights taken square t none = sym (straight_back taken t square) ∙ no_straight taken square t none

pub off_lines : (taken : ℕ → Bool) (square t : ℕ) → is_on_diagonal square t ≡ false → is_on_straight square t ≡ false
    → (reaches_as_bishop taken t square || reaches_as_rook taken t square) ≡ false
off_lines taken square t slants lines = rw (off_diagonals taken square t slants, off_straights taken square t lines) refl

-- Of the sliders those on the lines of a square are asked about: where there is none, none of them sees it.
pub none_near : (sliders lines t : ℕ) (on seen : Bool) → has lines t ≡ on → (on ≡ false → seen ≡ false) → bit_and sliders lines ≡ 0
    → has 0 t ≡ (has sliders t && seen)
none_near sliders lines t on seen rule off none =
    has_none 0 t refl ∙ sym (dropped (has sliders t) on seen off
    (sym (part sliders lines t (has sliders t) on refl rule) ∙ has_none (bit_and sliders lines) t none))
  where
    dropped : (x on seen : Bool) → (on ≡ false → seen ≡ false) → (x && on) ≡ false → (x && seen) ≡ false
    dropped true on seen off e = off e
    dropped false on seen off e = refl

pub some_near : (sliders lines attacks t : ℕ) (on seen : Bool) → has lines t ≡ on → (on ≡ false → seen ≡ false) → has attacks t ≡ seen
    → has (bit_and (bit_and sliders lines) attacks) t ≡ (has sliders t && seen)
some_near sliders lines attacks t on seen rule off e =
    part (bit_and sliders lines) attacks t (has sliders t && on) seen (part sliders lines t (has sliders t) on refl rule) e
    ∙ both (has sliders t) on seen off
  where
    both : (x on seen : Bool) → (on ≡ false → seen ≡ false) → ((x && on) && seen) ≡ (x && seen)
    both true true seen off = refl
    both true false seen off = sym (off refl)
    both false on seen off = refl
