-- What lies on a ray behind its first man, by bits.
use Rattle.std.proofs.Common.{◌≡◌, ◌≢◌, ℕ, ◌-◌, ◌^◌, ◌<◌, Bool, true, false, not, ◌&&◌, ◌||◌, eqb, refl, sym, ap, ◌∙◌, arith, w64, inl, inr}
use Rattle.std.specs.Int.{bit_at, trailing_zeros, leading_zeros}
use Rattle.std.specs.Int.RustNames.{bit_and, bit_or}
use Rattle.std.proofs.lemmas.Nat.Bits.{bit_at-trailing_zeros}
use Rattle.std.proofs.lemmas.Bool.{eq-eqb, eqb-true, and_from, and_parts, cases_eq, cases_lt, or_right, not-true, false_from_ne_true}
use Rattle.std.proofs.lemmas.Nat.{or_lt}
use Rattle.square_sets.specs.Members.{has}
use Rattle.chess_moves.proofs.SetBits.{has_and, has_or, has_none}
use Rattle.chess_moves.specs.declared.directions.Direction.{Direction}
use Rattle.chess_moves.specs.declared.directions.Direction.TheVariants.{North, NorthEast, East, SouthEast, South, SouthWest, West, NorthWest}
use Rattle.chess_board.specs.Squares.{all_below}
use Rattle.chess_moves.proofs.LastRanks.{same, same_equal, each}
use Rattle.chess_moves.specs.inside.Directions.{toward, is_rising, is_hidden}
use Rattle.chess_moves.proofs.Geometry.{toward_above, toward_below}
use Rattle.chess_moves.proofs.Scan.{bit_at-leading_zeros}
use Rattle.chess_moves.proofs.Slides.{hidden_beyond, hidden_none}

has_no : (set u : ℕ) → bit_at set u ≡ 0 → has set u ≡ false
has_no set u e = rw e

-- the first man on the ray at b
hidden_from : (ray occupied beyond s b : ℕ) (d : Direction) → ((t : ℕ) → t < 64 → has ray t ≡ toward d s t)
    → ((t : ℕ) → t < 64 → has beyond t ≡ toward d b t) → b < 64 → bit_at (bit_and ray occupied) b ≡ 1
    → ((u : ℕ) → u < 64 → toward d s b ≡ true → toward d s u ≡ true → has (bit_and ray occupied) u ≡ true → u ≢ b → toward d b u ≡ true)
    → (t : ℕ) → t < 64 → has beyond t ≡ is_hidden (has occupied) d s t
hidden_from ray occupied beyond s b d rule rule_beyond on there first t l =
    let taken = and_parts (has ray b) (has occupied b) (sym (has_and ray occupied b) ∙ eq-eqb (bit_at (bit_and ray occupied) b) 1 there) in
    let line : toward d s b ≡ true = sym (rule b on) ∙ taken.0 in
    rule_beyond t l ∙ hidden_beyond (has occupied) d s b t on line taken.1
    (λ u k h m ne. first u k line h (has_and ray occupied u ∙ and_from (has ray u) (has occupied u) (rule u k ∙ h) m) ne)

-- no man on the ray, and nothing beyond b
hidden_past : (ray occupied beyond s : ℕ) (d : Direction) → ((t : ℕ) → t < 64 → has ray t ≡ toward d s t)
    → ((t : ℕ) → t < 64 → has beyond t ≡ false) → ((u : ℕ) → u < 64 → has (bit_and ray occupied) u ≡ false)
    → (t : ℕ) → t < 64 → has beyond t ≡ is_hidden (has occupied) d s t
hidden_past ray occupied beyond s d rule nothing none t l =
    nothing t l ∙ hidden_none (has occupied) d s t (λ u k. ap (λ x. x && has occupied u) (sym (rule u k)) ∙ sym (has_and ray occupied u) ∙ none u k)

-- nothing lies beyond h8 as the numbers rise, and nothing beyond a1 as they fall
end_tried : (d : Direction) → is_rising d ≡ true → all_below 64 (λ t. not (toward d 63 t)) ≡ true
unfolding all_below toward
end_tried North r = refl
end_tried NorthEast r = refl
end_tried East r = refl
end_tried NorthWest r = refl
end_tried SouthEast r = absurd (cc)
end_tried South r = absurd (cc)
end_tried SouthWest r = absurd (cc)
end_tried West r = absurd (cc)

start_tried : (d : Direction) → is_rising d ≡ false → all_below 64 (λ t. not (toward d 0 t)) ≡ true
unfolding all_below toward
start_tried North r = absurd (cc)
start_tried NorthEast r = absurd (cc)
start_tried East r = absurd (cc)
start_tried NorthWest r = absurd (cc)
start_tried SouthEast r = refl
start_tried South r = refl
start_tried SouthWest r = refl
start_tried West r = refl

nothing_at : (d : Direction) (b t : ℕ) → all_below 64 (λ t. not (toward d b t)) ≡ true → t < 64 → toward d b t ≡ false
nothing_at d b t h l = not-true (toward d b t) (each (λ t. not (toward d b t)) 64 t h l)

-- a set with one square more is not empty, and has only that square more
abbrev OneMore : ℕ → ℕ → ℕ → Type 0
OneMore set more e = ((t : ℕ) → t < 64 → has more t ≡ (has set t || eqb t e))

some_more : (set more e : ℕ) → OneMore set more e → e < 64 → 0 < more
some_more set more e h on = elim (cases_eq more 0) [
  | inl z ↦ let none = has_none more e z in let one = h e on ∙ or_right (has set e) (eqb e e) (eq-eqb e e refl) in absurd (cc)
  | inr ne ↦ omega arith
]

in_more : (set more e u : ℕ) → OneMore set more e → u < 64 → has set u ≡ true → has more u ≡ true
in_more set more e u h l m = h u l ∙ (rw m)

-- The first man has the lowest number; with h8 taken there is one.
pub hidden_rising : (ray occupied more beyond s : ℕ) (d : Direction) → is_rising d ≡ true → ((t : ℕ) → t < 64 → has ray t ≡ toward d s t)
    → OneMore (bit_and ray occupied) more 63 → more < 2 ^ 64
    → ((t : ℕ) → t < 64 → has beyond t ≡ toward d (trailing_zeros w64 more) t)
    → (t : ℕ) → t < 64 → has beyond t ≡ is_hidden (has occupied) d s t
hidden_rising ray occupied more beyond s d rises rule one_more small rule_beyond =
    let m : ℕ = bit_and ray occupied in
    let z = bit_at-trailing_zeros w64 more (some_more m more 63 one_more (omega arith)) small in
    let b : ℕ = trailing_zeros w64 more in
    let low : (u : ℕ) → u < b → u < 64 → has m u ≡ true → ⊥ = λ u l k there. let none = has_no more u (z.2 u l) in let some =
    in_more m more 63 u one_more k there in cc in
    (elim (has m b) as (λ x. has m b ≡ x → (t : ℕ) → t < 64 → has beyond t ≡ is_hidden (has occupied) d s t) [
      | true ↦ λ e. hidden_from ray occupied beyond s b d rule rule_beyond z.0 (eqb-true (bit_at m b) 1 e)
          (λ u k line h there ne. toward_above d s b u rises line h (elim (cases_lt u b) [ inl l ↦ absurd (low u l k there) | inr g ↦ omega arith ]))
      | false ↦ λ e.
          let last : has more b ≡ eqb b 63 = one_more b z.0 ∙ (rw e) in
          let at_end : b ≡ 63 = eqb-true b 63 (sym last ∙ eq-eqb (bit_at more b) 1 z.1) in
          hidden_past ray occupied beyond s d rule
          (λ t l. rule_beyond t l ∙ ap (λ (u : ℕ). toward d u t) at_end ∙ nothing_at d 63 t (end_tried d rises) l)
          (λ u k. elim (cases_lt u b) [
            | inl l ↦ false_from_ne_true (has m u) (λ there. low u l k there)
            | inr g ↦ let same : u ≡ b = omega arith in ap (has m) same ∙ e
          ])
    ]) refl

-- The first man has the highest number; with a1 taken there is one.
pub hidden_falling : (ray occupied more beyond s : ℕ) (d : Direction) → is_rising d ≡ false → ((t : ℕ) → t < 64 → has ray t ≡ toward d s t)
    → OneMore (bit_and ray occupied) more 0 → more < 2 ^ 64
    → ((t : ℕ) → t < 64 → has beyond t ≡ toward d (63 - leading_zeros w64 more) t)
    → (t : ℕ) → t < 64 → has beyond t ≡ is_hidden (has occupied) d s t
hidden_falling ray occupied more beyond s d rises rule one_more small rule_beyond =
    let m : ℕ = bit_and ray occupied in
    let z = bit_at-leading_zeros more (some_more m more 0 one_more (omega arith)) small in
    let b : ℕ = 63 - leading_zeros w64 more in
    let high : (u : ℕ) → b < u → u < 64 → has m u ≡ true → ⊥ = λ u l k there. let none = has_no more u (z.3 u l) in let some =
    in_more m more 0 u one_more k there in cc in
    (elim (has m b) as (λ x. has m b ≡ x → (t : ℕ) → t < 64 → has beyond t ≡ is_hidden (has occupied) d s t) [
      | true ↦ λ e. hidden_from ray occupied beyond s b d rule rule_beyond z.0 (eqb-true (bit_at m b) 1 e)
          (λ u k line h there ne. toward_below d s b u rises line h
          (elim (cases_lt u b) [ inl l ↦ l | inr g ↦ absurd (high u (omega arith) k there) ]))
      | false ↦ λ e.
          let last : has more b ≡ eqb b 0 = one_more b z.0 ∙ (rw e) in
          let at_end : b ≡ 0 = eqb-true b 0 (sym last ∙ eq-eqb (bit_at more b) 1 z.2) in
          hidden_past ray occupied beyond s d rule
          (λ t l. rule_beyond t l ∙ ap (λ (u : ℕ). toward d u t) at_end ∙ nothing_at d 0 t (start_tried d rises) l)
          (λ u k. elim (cases_lt b u) [
            | inl l ↦ false_from_ne_true (has m u) (λ there. high u l k there)
            | inr g ↦ let same : u ≡ b = omega arith in ap (has m) same ∙ e
          ])
    ]) refl

-- h8 and a1 alone
top_tried : all_below 64 (λ t. same (has 9223372036854775808 t) (eqb t 63)) ≡ true
unfolding all_below
top_tried = refl

bottom_tried : all_below 64 (λ t. same (has 1 t) (eqb t 0)) ≡ true
unfolding all_below
bottom_tried = refl

pub with_h8 : (set : ℕ) → OneMore set (bit_or set 9223372036854775808) 63
with_h8 set t l = has_or set 9223372036854775808 t ∙ ap (λ (x : Bool). has set t || x) (same_equal (has 9223372036854775808 t)
    (eqb t 63) (each (λ t. same (has 9223372036854775808 t) (eqb t 63)) 64 t top_tried l))

pub with_a1 : (set : ℕ) → OneMore set (bit_or set 1) 0
with_a1 set t l = has_or set 1 t ∙ ap (λ (x : Bool). has set t || x)
    (same_equal (has 1 t) (eqb t 0) (each (λ t. same (has 1 t) (eqb t 0)) 64 t bottom_tried l))

-- It is a word, as the set is, and where the lowest and the highest square stand.
pub small_h8 : (set : ℕ) → set < 2 ^ 64 → bit_or set 9223372036854775808 < 2 ^ 64
small_h8 set l = or_lt 64 set 9223372036854775808 l (omega arith)

pub small_a1 : (set : ℕ) → set < 2 ^ 64 → bit_or set 1 < 2 ^ 64
small_a1 set l = or_lt 64 set 1 l (omega arith)

pub first_rising : (set : ℕ) → set < 2 ^ 64 → trailing_zeros w64 (bit_or set 9223372036854775808) < 64
first_rising set l = (bit_at-trailing_zeros w64 (bit_or set 9223372036854775808)
    (some_more set (bit_or set 9223372036854775808) 63 (with_h8 set) (omega arith)) (small_h8 set l)).0

pub first_falling : (set : ℕ) → set < 2 ^ 64 → leading_zeros w64 (bit_or set 1) < 64
first_falling set l = (bit_at-leading_zeros (bit_or set 1) (some_more set (bit_or set 1) 0 (with_a1 set) (omega arith)) (small_a1 set l)).1
