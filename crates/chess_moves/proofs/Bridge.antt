-- Attack by differences of file and rank is attack by directions and leaps.
use Rattle.std.proofs.Common.{◌≡◌, ℕ, zero, suc, ◌/◌, ◌%◌, ◌<◌, Bool, true, false, not, ◌&&◌, ◌||◌, ltb}
use Rattle.std.proofs.Common.{List, Option, Some, None, ◌⊎◌, inl, inr, refl, sym, ap, ◌∙◌, arith}
use Rattle.std.proofs.Math.Bool.{and-or_distrib_right}
use Rattle.std.proofs.lemmas.Bool.{and_parts, and_from, or_cases, or_left, or_right, eqb-true, eq-eqb, lt-ltb, ltb-true}
use Rattle.chess_board.specs.declared.men.Colour.{Colour}
use Rattle.chess_board.specs.declared.men.Colour.TheVariants.{White, Black}
use Rattle.chess_board.specs.declared.men.Kind.{Kind}
use Rattle.chess_board.specs.declared.men.Kind.TheVariants.{Pawn, Knight, Bishop, Rook, Queen, King}
use Rattle.chess_board.specs.declared.men.Man.{Man}
use Rattle.chess_board.specs.Squares.{file_gap, rank_gap, any_below, all_below, some_square}
use Rattle.chess_board.specs.Men.{is_colour}
use Rattle.chess_board.specs.Positions.{man_at, is_empty}
use Rattle.chess_board.specs.Attacks.{is_amid, on_one_rank, on_one_file, on_one_diagonal, is_between_on_rank}
use Rattle.chess_board.specs.Attacks.{is_between_on_file, is_between_on_diagonal, is_between}
use Rattle.chess_board.specs.Attacks.{is_clear, is_rook_line, is_bishop_line, attacks_as, man_attacks, attacks_from, is_attacked}
use Rattle.chess_moves.specs.declared.directions.Direction.{Direction}
use Rattle.chess_moves.specs.declared.directions.Direction.TheVariants.{North, NorthEast, East, SouthEast, South, SouthWest, West, NorthWest}
use Rattle.chess_moves.specs.inside.Directions.{toward, is_blocked, reaches, reaches_as_bishop, reaches_as_rook, stands_between}
use Rattle.chess_moves.specs.inside.Leaps.{leaps}
use Rattle.chess_moves.specs.inside.Hits.{is_taken, hits_as, place_hits, hits_from, is_hit}
use Rattle.chess_moves.proofs.AnyLemmas.{any_same}
use Rattle.chess_moves.proofs.Geometry.{north_east_on, north_west_on, north_says, north_from, east_says, east_from, north_east_says, north_west_says}
use Rattle.chess_moves.proofs.Compass.{between_from, between_some, between_in}
use Rattle.chess_moves.proofs.Slants.{slant_east, slant_west, east_gaps, west_gaps, gaps_back}
use Rattle.chess_moves.proofs.LineDirections.{bishop_line, rook_line}
use Rattle.chess_moves.proofs.Connectives.{same_tests, four_and}

-- x strictly between a and b, one way or the other
amid_says : (a b x : ℕ) → is_amid a b x ≡ true → ((a < x) × (x < b)) ⊎ ((b < x) × (x < a))
amid_says a b x h = elim (or_cases (ltb a x && ltb x b) (ltb b x && ltb x a) h) [
  | inl h ↦ let y = and_parts (ltb a x) (ltb x b) h in inl (ltb-true a x y.0, ltb-true x b y.1)
  | inr h ↦ let y = and_parts (ltb b x) (ltb x a) h in inr (ltb-true b x y.0, ltb-true x a y.1)
]

amid_up : (a b x : ℕ) → a < x → x < b → is_amid a b x ≡ true
amid_up a b x l k = rw (lt-ltb a x l, lt-ltb x b k)

amid_down : (a b x : ℕ) → b < x → x < a → is_amid a b x ≡ true
amid_down a b x l k = or_right (ltb a x && ltb x b) (ltb b x && ltb x a) (and_from (ltb b x) (ltb x a) (lt-ltb b x l) (lt-ltb x a k))

-- Between on a rank, a file or a diagonal is between in some direction.
on_way : (d : Direction) (a b s : ℕ) → toward d a s ≡ true → toward d s b ≡ true → stands_between a b s ≡ true
on_way d a b s h k = between_from d a b s (and_from (toward d a s) (toward d s b) h k)

rank_stands : (a b s : ℕ) → is_between_on_rank a b s ≡ true → stands_between a b s ≡ true
unfolding toward
rank_stands a b s h =
    let x = and_parts (on_one_rank a b && on_one_rank a s) (is_amid (a % 8) (b % 8) (s % 8)) h in
    let y = and_parts (on_one_rank a b) (on_one_rank a s) x.0 in
    let e = eqb-true (a / 8) (b / 8) y.0 in
    let f = eqb-true (a / 8) (s / 8) y.1 in
    elim (amid_says (a % 8) (b % 8) (s % 8) x.1) [
      | inl l ↦ on_way East a b s (east_from a s (omega arith) (omega arith)) (east_from s b (omega arith) (omega arith))
      | inr l ↦ on_way West a b s (east_from s a (omega arith) (omega arith)) (east_from b s (omega arith) (omega arith))
    ]

file_stands : (a b s : ℕ) → is_between_on_file a b s ≡ true → stands_between a b s ≡ true
unfolding toward
file_stands a b s h =
    let x = and_parts (on_one_file a b && on_one_file a s) (is_amid (a / 8) (b / 8) (s / 8)) h in
    let y = and_parts (on_one_file a b) (on_one_file a s) x.0 in
    let e = eqb-true (a % 8) (b % 8) y.0 in
    let f = eqb-true (a % 8) (s % 8) y.1 in
    elim (amid_says (a / 8) (b / 8) (s / 8) x.1) [
      | inl l ↦ on_way North a b s (north_from a s (omega arith) (omega arith)) (north_from s b (omega arith) (omega arith))
      | inr l ↦ on_way South a b s (north_from s a (omega arith) (omega arith)) (north_from b s (omega arith) (omega arith))
    ]

diagonal_stands : (a b s : ℕ) → is_between_on_diagonal a b s ≡ true → stands_between a b s ≡ true
unfolding toward
diagonal_stands a b s h =
    let v =
    and_parts (on_one_diagonal a b && on_one_diagonal a s && on_one_diagonal s b && is_amid (a % 8) (b % 8) (s % 8))
    (is_amid (a / 8) (b / 8) (s / 8)) h in
    let x = and_parts (on_one_diagonal a b && on_one_diagonal a s && on_one_diagonal s b) (is_amid (a % 8) (b % 8) (s % 8)) v.0 in
    let y = and_parts (on_one_diagonal a b && on_one_diagonal a s) (on_one_diagonal s b) x.0 in
    let z = and_parts (on_one_diagonal a b) (on_one_diagonal a s) y.0 in
    let e = eqb-true (file_gap a s) (rank_gap a s) z.1 in
    let f = eqb-true (file_gap s b) (rank_gap s b) y.1 in
    let e' = gaps_back a s e in
    let f' = gaps_back s b f in
    elim (amid_says (a % 8) (b % 8) (s % 8) x.1) [
      | inl l ↦ elim (amid_says (a / 8) (b / 8) (s / 8) v.1) [
        | inl k ↦ on_way NorthEast a b s (slant_east a s e l.0 k.0) (slant_east s b f l.1 k.1)
        | inr k ↦ on_way SouthEast a b s (slant_west s a e' l.0 k.1) (slant_west b s f' l.1 k.0)
      ]
      | inr l ↦ elim (amid_says (a / 8) (b / 8) (s / 8) v.1) [
        | inl k ↦ on_way NorthWest a b s (slant_west a s e l.1 k.0) (slant_west s b f l.0 k.1)
        | inr k ↦ on_way SouthWest a b s (slant_east s a e' l.1 k.1) (slant_east b s f' l.0 k.0)
      ]
    ]

some_stands : (a b s : ℕ) → is_between a b s ≡ true → stands_between a b s ≡ true
some_stands a b s h = elim (or_cases (is_between_on_rank a b s || is_between_on_file a b s) (is_between_on_diagonal a b s) h) [
  | inr k ↦ diagonal_stands a b s k
  | inl h ↦ elim (or_cases (is_between_on_rank a b s) (is_between_on_file a b s) h) [
    | inl k ↦ rank_stands a b s k
    | inr k ↦ file_stands a b s k
  ]
]

-- and back
on_rank : (a b s : ℕ) → a / 8 ≡ s / 8 → s / 8 ≡ b / 8 → is_amid (a % 8) (b % 8) (s % 8) ≡ true → is_between a b s ≡ true
on_rank a b s e f l =
    or_left (is_between_on_rank a b s || is_between_on_file a b s) (is_between_on_diagonal a b s)
    (or_left (is_between_on_rank a b s) (is_between_on_file a b s)
    (and_from (on_one_rank a b && on_one_rank a s) (is_amid (a % 8) (b % 8) (s % 8))
    (and_from (on_one_rank a b) (on_one_rank a s) (eq-eqb (a / 8) (b / 8) (e ∙ f)) (eq-eqb (a / 8) (s / 8) e)) l))

on_file : (a b s : ℕ) → a % 8 ≡ s % 8 → s % 8 ≡ b % 8 → is_amid (a / 8) (b / 8) (s / 8) ≡ true → is_between a b s ≡ true
on_file a b s e f l =
    or_left (is_between_on_rank a b s || is_between_on_file a b s) (is_between_on_diagonal a b s)
    (or_right (is_between_on_rank a b s) (is_between_on_file a b s)
    (and_from (on_one_file a b && on_one_file a s) (is_amid (a / 8) (b / 8) (s / 8))
    (and_from (on_one_file a b) (on_one_file a s) (eq-eqb (a % 8) (b % 8) (e ∙ f)) (eq-eqb (a % 8) (s % 8) e)) l))

on_diagonal : (a b s : ℕ) → file_gap a b ≡ rank_gap a b → file_gap a s ≡ rank_gap a s → file_gap s b ≡ rank_gap s b
    → is_amid (a % 8) (b % 8) (s % 8) ≡ true → is_amid (a / 8) (b / 8) (s / 8) ≡ true → is_between a b s ≡ true
on_diagonal a b s e f g l k =
    or_right (is_between_on_rank a b s || is_between_on_file a b s) (is_between_on_diagonal a b s)
    (and_from (on_one_diagonal a b && on_one_diagonal a s && on_one_diagonal s b && is_amid (a % 8) (b % 8) (s % 8)) (is_amid (a / 8) (b / 8) (s / 8))
    (and_from (on_one_diagonal a b && on_one_diagonal a s && on_one_diagonal s b) (is_amid (a % 8) (b % 8) (s % 8))
    (and_from (on_one_diagonal a b && on_one_diagonal a s) (on_one_diagonal s b)
    (and_from (on_one_diagonal a b) (on_one_diagonal a s) (eq-eqb (file_gap a b) (rank_gap a b) e) (eq-eqb (file_gap a s) (rank_gap a s) f))
    (eq-eqb (file_gap s b) (rank_gap s b) g)) l) k)

way_between : (d : Direction) (a b s : ℕ) → toward d a s ≡ true → toward d s b ≡ true → is_between a b s ≡ true
unfolding toward
way_between North a b s h k =
    let x = north_says a s h in let y = north_says s b k in
    on_file a b s (omega arith) (omega arith) (amid_up (a / 8) (b / 8) (s / 8) (omega arith) (omega arith))
way_between South a b s h k =
    let x = north_says s a h in let y = north_says b s k in
    on_file a b s (omega arith) (omega arith) (amid_down (a / 8) (b / 8) (s / 8) (omega arith) (omega arith))
way_between East a b s h k =
    let x = east_says a s h in let y = east_says s b k in
    on_rank a b s (omega arith) (omega arith) (amid_up (a % 8) (b % 8) (s % 8) (omega arith) (omega arith))
way_between West a b s h k =
    let x = east_says s a h in let y = east_says b s k in
    on_rank a b s (omega arith) (omega arith) (amid_down (a % 8) (b % 8) (s % 8) (omega arith) (omega arith))
way_between NorthEast a b s h k =
    let x = north_east_says a s h in let y = north_east_says s b k in
    on_diagonal a b s (east_gaps a b (north_east_on a s b h k)) (east_gaps a s h) (east_gaps s b k)
    (amid_up (a % 8) (b % 8) (s % 8) (omega arith) (omega arith)) (amid_up (a / 8) (b / 8) (s / 8) (omega arith) (omega arith))
way_between SouthWest a b s h k =
    let x = north_east_says s a h in let y = north_east_says b s k in
    on_diagonal a b s (gaps_back b a (east_gaps b a (north_east_on b s a k h))) (gaps_back s a (east_gaps s a h)) (gaps_back b s (east_gaps b s k))
    (amid_down (a % 8) (b % 8) (s % 8) (omega arith) (omega arith)) (amid_down (a / 8) (b / 8) (s / 8) (omega arith) (omega arith))
way_between NorthWest a b s h k =
    let x = north_west_says a s h in let y = north_west_says s b k in
    on_diagonal a b s (west_gaps a b (north_west_on a s b h k)) (west_gaps a s h) (west_gaps s b k)
    (amid_down (a % 8) (b % 8) (s % 8) (omega arith) (omega arith)) (amid_up (a / 8) (b / 8) (s / 8) (omega arith) (omega arith))
way_between SouthEast a b s h k =
    let x = north_west_says s a h in let y = north_west_says b s k in
    on_diagonal a b s (gaps_back b a (west_gaps b a (north_west_on b s a k h))) (gaps_back s a (west_gaps s a h)) (gaps_back b s (west_gaps b s k))
    (amid_up (a % 8) (b % 8) (s % 8) (omega arith) (omega arith)) (amid_down (a / 8) (b / 8) (s / 8) (omega arith) (omega arith))

stands_some : (a b s : ℕ) → stands_between a b s ≡ true → is_between a b s ≡ true
stands_some a b s h =
    let w = between_some a b s h in
    let x = and_parts (toward w.direction a s) (toward w.direction s b) w.on_line in
    way_between w.direction a b s x.0 x.1

pub between_same : (a b s : ℕ) → a < 64 → b < 64 → s < 64 → is_between a b s ≡ stands_between a b s
between_same a b s a_on b_on s_on = same_tests (is_between a b s) (stands_between a b s) (some_stands a b s) (stands_some a b s)

-- Nothing stands between: each square is empty, or none is taken.
all_any : (p q : ℕ → Bool) (n : ℕ) → ((s : ℕ) → s < n → p s ≡ not (q s)) → all_below n p ≡ not (any_below n q)
unfolding all_below any_below
all_any p q zero h = refl
all_any p q (suc n) h =
    let e = all_any p q n (λ s l. h s (omega arith)) in
    let f = h n (omega arith) in
    rw (e, f) (neither (any_below n q) (q n))
  where
    neither : (x y : Bool) → (not x && not y) ≡ not (x || y)
    neither true y = refl
    neither false y = refl

pub clear_same : (men : List (Option Man)) (a b : ℕ) → a < 64 → b < 64
    → is_clear men a b ≡ not (some_square (λ s. stands_between a b s && is_taken men s))
clear_same men a b a_on b_on =
    all_any (λ s. not (is_between a b s) || is_empty men s) (λ s. stands_between a b s && is_taken men s) 64 (λ s s_on.
    ap (λ (x : Bool). not x || is_empty men s) (between_same a b s a_on b_on s_on) ∙ neither (stands_between a b s) (is_taken men s))
  where
    neither : (x y : Bool) → (not x || not y) ≡ not (x && y)
    neither true y = refl
    neither false y = refl

-- In the direction from a to b, what stands between is what stands between at all.
line_same : (d : Direction) (a b s : ℕ) → toward d a b ≡ true → (toward d a s && toward d s b) ≡ stands_between a b s
line_same d a b s line = same_tests (toward d a s && toward d s b) (stands_between a b s) (between_from d a b s) (between_in d a b s line)

reaches_clear : (men : List (Option Man)) (d : Direction) (a b : ℕ) → a < 64 → b < 64
    → reaches (λ s. is_taken men s) d a b ≡ (toward d a b && is_clear men a b)
reaches_clear men d a b a_on b_on =
    (elim (toward d a b) as (λ t. toward d a b ≡ t → (t && not (is_blocked (λ s. is_taken men s) d a b)) ≡ (t && is_clear men a b)) [
      | true ↦ λ line. ap not (any_same (λ s. toward d a s && toward d s b && is_taken men s) (λ s. stands_between a b s && is_taken men s) 64
          (λ s s_on. ap (λ (x : Bool). x && is_taken men s) (line_same d a b s line))) ∙ sym (clear_same men a b a_on b_on)
      | false ↦ λ line. refl
    ]) refl

-- A slider of each kind reaches the same squares.
pub bishop_same : (men : List (Option Man)) (a b : ℕ) → a < 64 → b < 64
    → (is_bishop_line a b && is_clear men a b) ≡ reaches_as_bishop (λ s. is_taken men s) a b
unfolding reaches_as_bishop
bishop_same men a b a_on b_on =
    let ne = reaches_clear men NorthEast a b a_on b_on in
    let se = reaches_clear men SouthEast a b a_on b_on in
    let sw = reaches_clear men SouthWest a b a_on b_on in
    let nw = reaches_clear men NorthWest a b a_on b_on in
    sym (rw (ne, se, sw, nw) (four_and (toward NorthEast a b) (toward SouthEast a b) (toward SouthWest a b) (toward NorthWest a b) (is_clear men a b))
    ∙ ap (λ (x : Bool). x && is_clear men a b) (sym (bishop_line a b)))

pub rook_same : (men : List (Option Man)) (a b : ℕ) → a < 64 → b < 64
    → (is_rook_line a b && is_clear men a b) ≡ reaches_as_rook (λ s. is_taken men s) a b
unfolding reaches_as_rook
rook_same men a b a_on b_on =
    let n = reaches_clear men North a b a_on b_on in
    let e = reaches_clear men East a b a_on b_on in
    let s = reaches_clear men South a b a_on b_on in
    let w = reaches_clear men West a b a_on b_on in
    sym (rw (n, e, s, w) (four_and (toward North a b) (toward East a b) (toward South a b) (toward West a b) (is_clear men a b))
    ∙ ap (λ (x : Bool). x && is_clear men a b) (sym (rook_line a b)))

pub queen_same : (men : List (Option Man)) (a b : ℕ) → a < 64 → b < 64
    → ((is_bishop_line a b || is_rook_line a b) && is_clear men a b)
    ≡ (reaches_as_bishop (λ s. is_taken men s) a b || reaches_as_rook (λ s. is_taken men s) a b)
queen_same men a b a_on b_on =
    let bishop = bishop_same men a b a_on b_on in
    let rook = rook_same men a b a_on b_on in
    and-or_distrib_right (is_bishop_line a b) (is_rook_line a b) (is_clear men a b) ∙ rw (bishop, rook) refl

-- A man of one kind attacks the same squares.
pub attacks_same : (men : List (Option Man)) (colour : Colour) (asked : Kind) (a b : ℕ) → a < 64 → b < 64
    → attacks_as men colour asked a b ≡ hits_as (λ s. is_taken men s) colour asked a b
unfolding leaps
attacks_same men White Pawn a b a_on b_on = refl
attacks_same men Black Pawn a b a_on b_on = refl
attacks_same men colour Knight a b a_on b_on = refl
attacks_same men colour Bishop a b a_on b_on = bishop_same men a b a_on b_on
attacks_same men colour Rook a b a_on b_on = rook_same men a b a_on b_on
attacks_same men colour Queen a b a_on b_on = queen_same men a b a_on b_on
attacks_same men colour King a b a_on b_on = refl

place_same : (men : List (Option Man)) (by : Colour) (place : Option Man) (a b : ℕ) → a < 64 → b < 64
    → man_attacks men place by a b ≡ place_hits (λ s. is_taken men s) by place a b
place_same men by None a b a_on b_on = refl
place_same men by (Some man) a b a_on b_on = of_colour by man.colour
  where
    of_colour : (by c : Colour)
        → (is_colour by c && attacks_as men c man.kind a b) ≡ (is_colour by c && hits_as (λ s. is_taken men s) by man.kind a b)
    of_colour White White = attacks_same men White man.kind a b a_on b_on
    of_colour White Black = refl
    of_colour Black White = refl
    of_colour Black Black = attacks_same men Black man.kind a b a_on b_on

-- Attack is the same.
pub attacked_same : (men : List (Option Man)) (square : ℕ) (by : Colour) → square < 64 → is_attacked men square by ≡ is_hit men square by
unfolding is_hit
attacked_same men square by on =
    any_same (λ a. attacks_from men by a square) (λ a. hits_from men by a square) 64 (λ a a_on. place_same men by (man_at men a) a square a_on on)
