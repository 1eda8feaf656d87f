-- What is in line with no man of a side, none of them attacks, whatever else stands on the board.
use Rattle.std.proofs.Common.{◌≡◌, ℕ, ◌<◌, Bool, true, false, ◌&&◌, ◌||◌, eqb, List, Option, None, length, set, refl, sym, ap, ◌∙◌, arith}
use Rattle.std.proofs.Common.{get_or-set_same, get_or-set_other}
use Rattle.std.specs.Int.RustNames.{bit_or}
use Rattle.std.proofs.lemmas.Bool.{eqb-true, eqb-false, or_parts, false_from_ne_true}
use Rattle.square_sets.specs.Members.{has}
use Rattle.chess_board.specs.declared.men.Colour.{Colour}
use Rattle.chess_board.specs.declared.men.Man.{Man}
use Rattle.chess_board.specs.Positions.{man_at}
use Rattle.chess_board.specs.Squares.{any_below}
use Rattle.chess_moves.specs.declared.directions.Leap.TheVariants.{KnightLeap, KingStep}
use Rattle.chess_moves.specs.declared.side_men.SideMen.{SideMen}
use Rattle.chess_moves.specs.inside.Directions.{reaches_as_bishop, reaches_as_rook, is_on_diagonal, is_on_straight}
use Rattle.chess_moves.specs.inside.SideMen.{StandFor}
use Rattle.chess_moves.specs.inside.Hits.{is_taken, hits_from, is_hit, place_hits}
use Rattle.chess_moves.specs.inside.Leaps.{leaps, capture_of}
use Rattle.chess_moves.proofs.AnyLemmas.{any_none, any_at}
use Rattle.chess_moves.proofs.AttackSets.{five, place_by_kind}
use Rattle.chess_moves.proofs.AttackedSets.{some_leap}
use Rattle.chess_moves.proofs.EmptyLines.{no_slant, no_straight}

pub none_at : (p : ℕ → Bool) (s : ℕ) → s < 64 → any_below 64 p ≡ false → p s ≡ false
none_at p s l none = false_from_ne_true (p s) (λ h. let some = any_at p 64 s l h in cc)

-- a test that a man passes, and what it would do then
dropped : (x on seen : Bool) → (on ≡ false → seen ≡ false) → (x && on) ≡ false → (x && seen) ≡ false
dropped true on seen off e = off e
dropped false on seen off e = refl

-- A square that is in line with none of the men is attacked by none.
pub none_hits : (side_men : SideMen) (by : Colour) (men : List (Option Man)) (t l1 l2 d r l3 : ℕ) → StandFor side_men by men
    → has l1 t ≡ some_leap side_men.pawns (capture_of by) t → has l2 t ≡ some_leap side_men.knights KnightLeap t
    → has d t ≡ any_below 64 (λ a. has side_men.diagonal a && is_on_diagonal a t)
    → has r t ≡ any_below 64 (λ a. has side_men.straight a && is_on_straight a t)
    → has l3 t ≡ some_leap side_men.king KingStep t
    → has (bit_or (bit_or (bit_or (bit_or l1 l2) d) r) l3) t ≡ false
    → (taken : ℕ → Bool) (a : ℕ) → a < 64 → place_hits taken by (man_at men a) a t ≡ false
none_hits side_men by men t l1 l2 d r l3 sets e1 e2 e3 e4 e5 none taken a l =
    let p1 : ℕ → Bool = λ a. has side_men.pawns a && leaps (capture_of by) a t in
    let p2 : ℕ → Bool = λ a. has side_men.knights a && leaps KnightLeap a t in
    let p3 : ℕ → Bool = λ a. has side_men.diagonal a && is_on_diagonal a t in
    let p4 : ℕ → Bool = λ a. has side_men.straight a && is_on_straight a t in
    let p5 : ℕ → Bool = λ a. has side_men.king a && leaps KingStep a t in
    let all : (any_below 64 p1 || any_below 64 p2 || any_below 64 p3 || any_below 64 p4 || any_below 64 p5) ≡ false =
    sym (five l1 l2 d r l3 t _ _ _ _ _ e1 e2 e3 e4 e5) ∙ none in
    let n5 = or_parts (any_below 64 p1 || any_below 64 p2 || any_below 64 p3 || any_below 64 p4) (any_below 64 p5) all in
    let n4 = or_parts (any_below 64 p1 || any_below 64 p2 || any_below 64 p3) (any_below 64 p4) n5.0 in
    let n3 = or_parts (any_below 64 p1 || any_below 64 p2) (any_below 64 p3) n4.0 in
    let n2 = or_parts (any_below 64 p1) (any_below 64 p2) n3.0 in
    let slant = dropped (has side_men.diagonal a) (is_on_diagonal a t) (reaches_as_bishop taken a t) (no_slant taken a t) (none_at p3 a l n3.1) in
    let line = dropped (has side_men.straight a) (is_on_straight a t) (reaches_as_rook taken a t) (no_straight taken a t) (none_at p4 a l n4.1) in
    sym (place_by_kind taken by (man_at men a) a t) ∙ rw (
      ap (λ x. x && leaps (capture_of by) a t) (sym (sets.pawns a l)) ∙ none_at p1 a l n2.0,
      ap (λ x. x && leaps KnightLeap a t) (sym (sets.knights a l)) ∙ none_at p2 a l n2.1,
      ap (λ x. x && reaches_as_bishop taken a t) (sym (sets.diagonal a l)) ∙ slant,
      ap (λ x. x && reaches_as_rook taken a t) (sym (sets.straight a l)) ∙ line,
      ap (λ x. x && leaps KingStep a t) (sym (sets.king a l)) ∙ none_at p5 a l n5.1,
    ) refl

-- nor by the others once one is gone
pub none_without : (men : List (Option Man)) (by : Colour) (t i : ℕ) → length men ≡ 64 → i < 64
    → ((taken : ℕ → Bool) (a : ℕ) → a < 64 → place_hits taken by (man_at men a) a t ≡ false)
    → (taken : ℕ → Bool) (a : ℕ) → a < 64 → place_hits taken by (man_at (set men i None) a) a t ≡ false
none_without men by t i len on none taken a l =
    (elim (eqb a i) as (λ b. eqb a i ≡ b → place_hits taken by (man_at (set men i None) a) a t ≡ false) [
      | true ↦ λ e. let same = eqb-true a i e in let within : i < length men = omega arith in rw same (rw get_or-set_same refl)
      | false ↦ λ e. let ne = eqb-false a i e in rw get_or-set_other (none taken a l)
    ]) refl

pub unhit : (men : List (Option Man)) (by : Colour) (t : ℕ)
    → ((taken : ℕ → Bool) (a : ℕ) → a < 64 → place_hits taken by (man_at men a) a t ≡ false) → is_hit men t by ≡ false
unfolding is_hit
unhit men by t none = any_none (λ a. hits_from men by a t) 64 (λ a l. none (λ s. is_taken men s) a l)
