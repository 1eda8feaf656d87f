-- Where pawns go, by the numbers of their squares.
use Rattle.std.proofs.Common.{◌≡◌, ℕ, ◌+◌, ◌-◌, ◌<◌, Bool, true, false, not, ◌&&◌, ◌||◌, eqb, leb, ltb, refl, sym, ap, ◌*◌, ◌/◌, ◌%◌, ◌^◌, ◌∙◌, arith}
use Rattle.std.specs.Int.{bit_at}
use Rattle.std.proofs.lemmas.Nat.{pow_pos, shr-shr}
use Rattle.std.proofs.lemmas.Nat.Bits.{bit_at-zero, bit_at_above, bit_at_cat_low, bit_at_cat_high}
use Rattle.std.proofs.lemmas.Bool.{leb-true, leb-false, ltb-true, ltb-false, eqb-true, and_parts}
use Rattle.square_sets.specs.Members.{has}
use Rattle.chess_board.specs.declared.men.Colour.{Colour}
use Rattle.chess_board.specs.declared.men.Colour.TheVariants.{White, Black}
use Rattle.chess_board.specs.Squares.{file_of, rank_of, all_below, crossed}
use Rattle.chess_moves.specs.inside.Leaps.{is_step, is_double, is_pawn_capture}
use Rattle.chess_moves.specs.inside.Shifts.{is_shifted, back, left_file, right_file, third_rank}
use Rattle.chess_moves.proofs.LastRanks.{same, same_equal, each}

-- a test of two squares, tried on all of them
each_pair : (test : ℕ → ℕ → Bool) (a b : ℕ) → all_below 64 (λ o. all_below 64 (λ t. test o t)) ≡ true → a < 64 → b < 64 → test a b ≡ true
each_pair test a b h j k = each (λ t. test a t) 64 b (each (λ o. all_below 64 (λ t. test o t)) 64 a h j) k

step_pairs : (c : Colour) → all_below 64 (λ o. all_below 64 (λ t. same (is_step c o t) (is_shifted c 8 t && eqb o (back c 8 t)))) ≡ true
unfolding all_below
step_pairs White = refl
step_pairs Black = refl

pub step_back : (c : Colour) (o t : ℕ) → o < 64 → t < 64 → is_step c o t ≡ (is_shifted c 8 t && eqb o (back c 8 t))
step_back c o t j k =
    same_equal (is_step c o t) (is_shifted c 8 t && eqb o (back c 8 t))
    (each_pair (λ a b. same (is_step c a b) (is_shifted c 8 b && eqb a (back c 8 b))) o t (step_pairs c) j k)

-- A word moved up, and one moved down.
raised : (set gap t : ℕ) → t < 64 → has (set * 2 ^ gap % 2 ^ 64) t ≡ (leb gap t && has set (t - gap))
raised set gap t l =
    let word : ℕ = set * 2 ^ gap in
    let whole : word ≡ word / 2 ^ 64 * 2 ^ 64 + word % 2 ^ 64 = omega arith in
    let low : bit_at (word % 2 ^ 64) t ≡ bit_at word t =
    sym (ap (λ (x : ℕ). bit_at x t) whole ∙ bit_at_cat_low (word / 2 ^ 64) 64 (word % 2 ^ 64) t l) in
    let plain : word ≡ set * 2 ^ gap + 0 = omega arith in
    (elim (leb gap t) as (λ b. leb gap t ≡ b → has (word % 2 ^ 64) t ≡ (b && has set (t - gap))) [
      | true ↦ λ e.
          let up : bit_at word t ≡ bit_at set (t - gap) =
          ap (λ (x : ℕ). bit_at x t) plain ∙ bit_at_cat_high set gap 0 t (pow_pos gap) (leb-true gap t e) in
          rw (low, up)
      | false ↦ λ e.
          let none : bit_at word t ≡ 0 = ap (λ (x : ℕ). bit_at x t) plain ∙ bit_at_cat_low set gap 0 t (leb-false gap t e) ∙ bit_at-zero t in
          rw (low, none)
    ]) refl

lowered : (set gap t : ℕ) → set < 2 ^ 64 → has (set / 2 ^ gap) t ≡ (ltb (t + gap) 64 && has set (t + gap))
lowered set gap t fits =
    let sum : gap + t ≡ t + gap = omega arith in
    let down : bit_at (set / 2 ^ gap) t ≡ bit_at set (t + gap) = ap (λ (x : ℕ). x % 2) (shr-shr set gap t) ∙ ap (bit_at set) sum in
    (elim (ltb (t + gap) 64) as (λ b. ltb (t + gap) 64 ≡ b → has (set / 2 ^ gap) t ≡ (b && has set (t + gap))) [
      | true ↦ λ e. rw down
      | false ↦ λ e. let none : bit_at set (t + gap) ≡ 0 = bit_at_above set 64 (t + gap) fits (ltb-false (t + gap) 64 e) in rw (down, none)
    ]) refl

pub raised_for : (c : Colour) (set gap t : ℕ) → c ≡ White → t < 64 → has (set * 2 ^ gap % 2 ^ 64) t ≡ (is_shifted c gap t && has set (back c gap t))
raised_for c set gap t white l = rw white (raised set gap t l)

pub lowered_for : (c : Colour) (set gap t : ℕ) → c ≡ Black → set < 2 ^ 64 → has (set / 2 ^ gap) t ≡ (is_shifted c gap t && has set (back c gap t))
lowered_for c set gap t black fits = rw black (lowered set gap t fits)

-- a pawn captures to its left, or to its right
abbrev pub goes_left : Colour → ℕ → ℕ → Bool
goes_left c o t = is_shifted c 7 t && eqb o (back c 7 t) && not (eqb (file_of o) (left_file c))

abbrev pub goes_right : Colour → ℕ → ℕ → Bool
goes_right c o t = is_shifted c 9 t && eqb o (back c 9 t) && not (eqb (file_of o) (right_file c))

abbrev doubled : Colour → ℕ → ℕ → Bool
doubled c o t = is_shifted c 8 t && is_shifted c 8 (back c 8 t) && eqb o (back c 8 (back c 8 t)) && eqb (rank_of (back c 8 t)) (third_rank c)

double_pairs : (c : Colour) → all_below 64 (λ o. all_below 64 (λ t. same (is_double c o t) (doubled c o t))) ≡ true
unfolding all_below
double_pairs White = refl
double_pairs Black = refl

pub double_back : (c : Colour) (o t : ℕ) → o < 64 → t < 64
    → is_double c o t ≡ (is_shifted c 8 t && is_shifted c 8 (back c 8 t) && eqb o (back c 8 (back c 8 t))
    && eqb (rank_of (back c 8 t)) (third_rank c))
double_back c o t j k = same_equal (is_double c o t) (doubled c o t)
    (each_pair (λ a b. same (is_double c a b) (doubled c a b)) o t (double_pairs c) j k)

crossed_pairs : (c : Colour) → all_below 64 (λ o. all_below 64 (λ t. not (is_double c o t) || eqb (crossed o t) (back c 8 t))) ≡ true
unfolding all_below
crossed_pairs White = refl
crossed_pairs Black = refl

pub crossed_back : (c : Colour) (o t : ℕ) → o < 64 → t < 64 → is_double c o t ≡ true → crossed o t ≡ back c 8 t
crossed_back c o t j k h =
    let tried = each_pair (λ a b. not (is_double c a b) || eqb (crossed a b) (back c 8 b)) o t (crossed_pairs c) j k in
    eqb-true (crossed o t) (back c 8 t) (rw h at tried)

capture_pairs : (c : Colour) → all_below 64 (λ o. all_below 64 (λ t. same (is_pawn_capture c o t) (goes_left c o t || goes_right c o t))) ≡ true
unfolding all_below
capture_pairs White = refl
capture_pairs Black = refl

pub capture_back_to : (c : Colour) (o t : ℕ) → o < 64 → t < 64 → is_pawn_capture c o t ≡ (goes_left c o t || goes_right c o t)
capture_back_to c o t j k =
    same_equal (is_pawn_capture c o t) (goes_left c o t || goes_right c o t)
    (each_pair (λ a b. same (is_pawn_capture c a b) (goes_left c a b || goes_right c a b)) o t (capture_pairs c) j k)

-- No two of a pawn's steps and captures lead from one square to one other.
abbrev apart : Bool → Bool → Bool
apart true b = not b
apart false b = true

apart_pairs : (c : Colour) → all_below 64 (λ o. all_below 64 (λ t. apart (is_step c o t) (is_double c o t)
    && apart (is_step c o t || is_double c o t) (is_pawn_capture c o t) && apart (goes_left c o t) (goes_right c o t))) ≡ true
unfolding all_below
apart_pairs White = refl
apart_pairs Black = refl

apart_from : (a b : Bool) → apart a b ≡ true → a ≡ true → b ≡ false
apart_from true true h e = cc
apart_from true false h e = refl
apart_from false b h e = cc

pub ways_apart : (c : Colour) (o t : ℕ) → o < 64 → t < 64
    → (is_step c o t ≡ true → is_double c o t ≡ false) × ((is_step c o t || is_double c o t) ≡ true
    → is_pawn_capture c o t ≡ false) × (goes_left c o t ≡ true → goes_right c o t ≡ false)
ways_apart c o t j k =
    let x : Bool = apart (is_step c o t) (is_double c o t) in
    let y : Bool = apart (is_step c o t || is_double c o t) (is_pawn_capture c o t) in
    let z : Bool = apart (goes_left c o t) (goes_right c o t) in
    let tried : (x && y && z) ≡ true = each_pair (λ a b. apart (is_step c a b) (is_double c a b) && apart (is_step c a b
    || is_double c a b) (is_pawn_capture c a b) && apart (goes_left c a b) (goes_right c a b)) o t (apart_pairs c) j k in
    let q = and_parts (x && y) z tried in
    let r = and_parts x y q.0 in (
      λ e. apart_from (is_step c o t) (is_double c o t) r.0 e,
      λ e. apart_from (is_step c o t || is_double c o t)
          (is_pawn_capture c o t) r.1 e,
      λ e. apart_from (goes_left c o t) (goes_right c o t) q.1 e,
    )

pub back_on : (c : Colour) (gap t : ℕ) → t < 64 → is_shifted c gap t ≡ true → back c gap t < 64
back_on White gap t l h = omega arith
back_on Black gap t l h = ltb-true (t + gap) 64 h

-- The a-file, the h-file, and the ranks that a double step passes over, square by square.
pub has-a_file : (s : ℕ) → s < 64 → has 72340172838076673 s ≡ eqb (file_of s) 0
unfolding all_below
has-a_file s l = same_equal (has 72340172838076673 s) (eqb (file_of s) 0) (each (λ t. same (has 72340172838076673 t) (eqb (file_of t) 0)) 64 s refl l)

pub has-h_file : (s : ℕ) → s < 64 → has 9259542123273814144 s ≡ eqb (file_of s) 7
unfolding all_below
has-h_file s l = same_equal (has 9259542123273814144 s) (eqb (file_of s) 7)
    (each (λ t. same (has 9259542123273814144 t) (eqb (file_of t) 7)) 64 s refl l)

pub has-third : (s : ℕ) → s < 64 → has 16711680 s ≡ eqb (rank_of s) 2
unfolding all_below
has-third s l = same_equal (has 16711680 s) (eqb (rank_of s) 2) (each (λ t. same (has 16711680 t) (eqb (rank_of t) 2)) 64 s refl l)

pub has-sixth : (s : ℕ) → s < 64 → has 280375465082880 s ≡ eqb (rank_of s) 5
unfolding all_below
has-sixth s l = same_equal (has 280375465082880 s) (eqb (rank_of s) 5) (each (λ t. same (has 280375465082880 t) (eqb (rank_of t) 5)) 64 s refl l)
