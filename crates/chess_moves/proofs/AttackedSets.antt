-- All squares that a side attacks, put together man by man and kind by kind.
use Rattle.std.proofs.Common.{◌≡◌, ℕ, Bool, true, false, ◌&&◌, ◌||◌, List, Option, is_some, refl, sym, ap, ◌∙◌}
use Rattle.std.specs.Int.RustNames.{bit_or}
use Rattle.std.proofs.Math.Bool.{or-false}
use Rattle.square_sets.specs.Members.{has}
use Rattle.square_sets.specs.BitScan.{IsSplit}
use Rattle.chess_board.specs.declared.men.Colour.{Colour}
use Rattle.chess_board.specs.declared.men.Man.{Man}
use Rattle.chess_board.specs.Positions.{man_at}
use Rattle.chess_board.specs.Sets.{IsSetOf}
use Rattle.chess_board.specs.Squares.{any_below}
use Rattle.chess_moves.specs.declared.directions.Leap.{Leap}
use Rattle.chess_moves.specs.declared.directions.Leap.TheVariants.{KnightLeap, KingStep}
use Rattle.chess_moves.specs.declared.side_men.SideMen.{SideMen}
use Rattle.chess_moves.specs.inside.Directions.{reaches_as_bishop, reaches_as_rook}
use Rattle.chess_moves.specs.inside.SideMen.{StandFor}
use Rattle.chess_moves.specs.inside.Hits.{is_taken, hits_from, is_hit}
use Rattle.chess_moves.specs.inside.Leaps.{leaps, capture_of}
use Rattle.chess_moves.proofs.AnyLemmas.{any_same, any_or}
use Rattle.chess_moves.proofs.AttackSets.{five, slants_same, straight_same, place_by_kind}
use Rattle.chess_moves.proofs.Kept.{any_first, none_left}
use Rattle.chess_moves.proofs.SetBits.{has_or}

-- what the first of the men that are left attacks is joined to the rest
pub joined_from : (p : ℕ → Bool) (set more from a rest t : ℕ) → IsSplit from a rest → has more t ≡ p a
    → (has (bit_or set more) t || any_below 64 (λ a. has rest a && p a)) ≡ (has set t || any_below 64 (λ a. has from a && p a))
joined_from p set more from a rest t split is =
    let all = any_first from rest p a split in
    rw (has_or set more t, is, all) (regrouped (has set t) (p a) (any_below 64 (λ a. has rest a && p a)))
  where
    regrouped : (x y z : Bool) → ((x || y) || z) ≡ (x || (y || z))
    regrouped true y z = refl
    regrouped false y z = refl

pub none_to_join : (p : ℕ → Bool) (set rest t : ℕ) → rest ≡ 0 → (has set t || any_below 64 (λ a. has rest a && p a)) ≡ has set t
none_to_join p set rest t none = let no = none_left rest p none in rw no (or-false (has set t))

abbrev pub some_leap : ℕ → Leap → ℕ → Bool
some_leap set leap t = any_below 64 (λ a. has set a && leaps leap a t)

-- the squares that the five kinds of men attack are all that are attacked
pub all_attacked : (occupied : ℕ) (side_men : SideMen) (by : Colour) (men : List (Option Man)) (t l1 l2 d r l3 : ℕ)
    → IsSetOf occupied is_some men → StandFor side_men by men
    → has l1 t ≡ some_leap side_men.pawns (capture_of by) t → has l2 t ≡ some_leap side_men.knights KnightLeap t
    → has d t ≡ any_below 64 (λ a. has side_men.diagonal a && reaches_as_bishop (has occupied) a t)
    → has r t ≡ any_below 64 (λ a. has side_men.straight a && reaches_as_rook (has occupied) a t)
    → has l3 t ≡ some_leap side_men.king KingStep t
    → has (bit_or (bit_or (bit_or (bit_or l1 l2) d) r) l3) t ≡ is_hit men t by
unfolding is_hit
all_attacked occupied side_men by men t l1 l2 d r l3 stands sets e1 e2 e3 e4 e5 =
    let taken : ℕ → Bool = λ s. is_taken men s in
    let p1 : ℕ → Bool = λ a. has side_men.pawns a && leaps (capture_of by) a t in
    let p2 : ℕ → Bool = λ a. has side_men.knights a && leaps KnightLeap a t in
    let p3 : ℕ → Bool = λ a. has side_men.diagonal a && reaches_as_bishop (has occupied) a t in
    let p4 : ℕ → Bool = λ a. has side_men.straight a && reaches_as_rook (has occupied) a t in
    let p5 : ℕ → Bool = λ a. has side_men.king a && leaps KingStep a t in
    five l1 l2 d r l3 t _ _ _ _ _ e1 e2 e3 e4 e5
    ∙ sym (any_or (λ a. p1 a || p2 a || p3 a || p4 a) p5 64
    ∙ ap (λ x. x || any_below 64 p5) (any_or (λ a. p1 a || p2 a || p3 a) p4 64
    ∙ ap (λ x. x || any_below 64 p4) (any_or (λ a. p1 a || p2 a) p3 64
    ∙ ap (λ x. x || any_below 64 p3) (any_or p1 p2 64))))
    ∙ any_same (λ a. p1 a || p2 a || p3 a || p4 a || p5 a) (λ a. hits_from men by a t) 64 (λ a l.
    rw (
      sets.pawns a l,
      sets.knights a l,
      sets.diagonal a l,
      sets.straight a l,
      sets.king a l,
      slants_same (has occupied) taken stands a t,
      straight_same (has occupied) taken stands a t,
    )
    (place_by_kind taken by (man_at men a) a t))
