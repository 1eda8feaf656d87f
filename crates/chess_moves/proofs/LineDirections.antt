-- A bishop's line is one of four directions, and a rook's line one of the other four.
use Rattle.std.proofs.Common.{◌≡◌, ◌≢◌, ℕ, ◌/◌, ◌%◌, ◌<◌, true, not, ◌||◌, eqb, ◌⊎◌, inl, inr, sym, arith}
use Rattle.std.proofs.lemmas.Bool.{and_parts, and_from, or_cases, or_left, or_right, eqb-true, eq-eqb}
use Rattle.std.proofs.lemmas.Bool.{ne_eqb, eqb-false, not-true, not_from_false, cases_order}
use Rattle.chess_board.specs.Squares.{file_gap, rank_gap}
use Rattle.chess_board.specs.Attacks.{on_one_rank, on_one_file, on_one_diagonal, is_rook_line, is_bishop_line}
use Rattle.chess_moves.specs.declared.directions.Direction.TheVariants.{North, NorthEast, East, SouthEast, South, SouthWest, West, NorthWest}
use Rattle.chess_moves.specs.inside.Directions.{toward}
use Rattle.chess_moves.proofs.Geometry.{north_says, north_from, east_says, east_from, north_east_says, north_west_says}
use Rattle.chess_moves.proofs.Connectives.{same_tests}
use Rattle.chess_moves.proofs.Slants.{slant_east, slant_west, east_gaps, west_gaps, gaps_back}

-- squares on two ranks, or on two files, are two
apart_up : (a b : ℕ) → a / 8 < b / 8 → a ≢ b
apart_up a b l = λ e. omega arith

apart_down : (a b : ℕ) → b / 8 < a / 8 → a ≢ b
apart_down a b l = λ e. omega arith

apart_right : (a b : ℕ) → a % 8 < b % 8 → a ≢ b
apart_right a b l = λ e. omega arith

apart_left : (a b : ℕ) → b % 8 < a % 8 → a ≢ b
apart_left a b l = λ e. omega arith

line_slants : (a b : ℕ) → is_bishop_line a b ≡ true
    → (toward NorthEast a b || toward SouthEast a b || toward SouthWest a b || toward NorthWest a b) ≡ true
unfolding toward
line_slants a b h =
    let x = and_parts (not (eqb a b)) (on_one_diagonal a b) h in
    let apart = eqb-false a b (not-true (eqb a b) x.0) in
    let e = eqb-true (file_gap a b) (rank_gap a b) x.1 in
    elim (cases_order (a / 8) (b / 8)) [
      | inl k ↦ absurd (omega arith)
      | inr (inl k) ↦ elim (cases_order (a % 8) (b % 8)) [
        | inl l ↦ absurd (omega arith)
        | inr (inl l) ↦ or_left _ _ (or_left _ _ (or_left _ _ (slant_east a b e l k)))
        | inr (inr l) ↦ or_right _ _ (slant_west a b e l k)
      ]
      | inr (inr k) ↦ elim (cases_order (a % 8) (b % 8)) [
        | inl l ↦ absurd (omega arith)
        | inr (inl l) ↦ or_left _ _ (or_left _ _ (or_right _ _ (slant_west b a (gaps_back a b e) l k)))
        | inr (inr l) ↦ or_left _ _ (or_right _ _ (slant_east b a (gaps_back a b e) l k))
      ]
    ]

slants_line : (a b : ℕ) → (toward NorthEast a b || toward SouthEast a b || toward SouthWest a b || toward NorthWest a b) ≡ true
    → is_bishop_line a b ≡ true
unfolding toward
slants_line a b h = elim (or_cases _ _ h) [
  | inr k ↦ line (apart_up a b (north_west_says a b k).1) (west_gaps a b k)
  | inl h ↦ elim (or_cases _ _ h) [
    | inr k ↦ line (apart_down a b (north_east_says b a k).1) (gaps_back b a (east_gaps b a k))
    | inl h ↦ elim (or_cases _ _ h) [
      | inr k ↦ line (apart_down a b (north_west_says b a k).1) (gaps_back b a (west_gaps b a k))
      | inl k ↦ line (apart_up a b (north_east_says a b k).1) (east_gaps a b k)
    ]
  ]
]
  where
    line : a ≢ b → file_gap a b ≡ rank_gap a b → is_bishop_line a b ≡ true
    line apart e =
        and_from (not (eqb a b)) (on_one_diagonal a b) (not_from_false (eqb a b) (ne_eqb a b apart)) (eq-eqb (file_gap a b) (rank_gap a b) e)

pub bishop_line : (a b : ℕ) → is_bishop_line a b ≡ (toward NorthEast a b || toward SouthEast a b || toward SouthWest a b || toward NorthWest a b)
bishop_line a b = same_tests _ _ (line_slants a b) (slants_line a b)

line_straight : (a b : ℕ) → is_rook_line a b ≡ true → (toward North a b || toward East a b || toward South a b || toward West a b) ≡ true
unfolding toward
line_straight a b h =
    let x = and_parts (not (eqb a b)) (on_one_rank a b || on_one_file a b) h in
    let apart = eqb-false a b (not-true (eqb a b) x.0) in
    elim (or_cases (on_one_rank a b) (on_one_file a b) x.1) [
      | inl r ↦ let e = eqb-true (a / 8) (b / 8) r in elim (cases_order (a % 8) (b % 8)) [
        | inl k ↦ absurd (omega arith)
        | inr (inl k) ↦ or_left _ _ (or_left _ _ (or_right _ _ (east_from a b e k)))
        | inr (inr k) ↦ or_right _ _ (east_from b a (sym e) k)
      ]
      | inr f ↦ let e = eqb-true (a % 8) (b % 8) f in elim (cases_order (a / 8) (b / 8)) [
        | inl k ↦ absurd (omega arith)
        | inr (inl k) ↦ or_left _ _ (or_left _ _ (or_left _ _ (north_from a b e k)))
        | inr (inr k) ↦ or_left _ _ (or_right _ _ (north_from b a (sym e) k))
      ]
    ]

straight_line : (a b : ℕ) → (toward North a b || toward East a b || toward South a b || toward West a b) ≡ true → is_rook_line a b ≡ true
unfolding toward
straight_line a b h = elim (or_cases _ _ h) [
  | inr k ↦ let x = east_says b a k in on_one (apart_left a b x.1) (inl (sym x.0))
  | inl h ↦ elim (or_cases _ _ h) [
    | inr k ↦ let x = north_says b a k in on_one (apart_down a b x.1) (inr (sym x.0))
    | inl h ↦ elim (or_cases _ _ h) [
      | inr k ↦ let x = east_says a b k in on_one (apart_right a b x.1) (inl x.0)
      | inl k ↦ let x = north_says a b k in on_one (apart_up a b x.1) (inr x.0)
    ]
  ]
]
  where
    on_either : (a / 8 ≡ b / 8) ⊎ (a % 8 ≡ b % 8) → (on_one_rank a b || on_one_file a b) ≡ true
    on_either (inl e) = or_left (on_one_rank a b) (on_one_file a b) (eq-eqb (a / 8) (b / 8) e)
    on_either (inr e) = or_right (on_one_rank a b) (on_one_file a b) (eq-eqb (a % 8) (b % 8) e)

    on_one : a ≢ b → (a / 8 ≡ b / 8) ⊎ (a % 8 ≡ b % 8) → is_rook_line a b ≡ true
    on_one apart e = and_from (not (eqb a b)) (on_one_rank a b || on_one_file a b) (not_from_false (eqb a b) (ne_eqb a b apart)) (on_either e)

pub rook_line : (a b : ℕ) → is_rook_line a b ≡ (toward North a b || toward East a b || toward South a b || toward West a b)
rook_line a b = same_tests _ _ (line_straight a b) (straight_line a b)
