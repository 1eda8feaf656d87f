-- The men once one went to another square, and once one was taken away.
use Rattle.std.proofs.Common.{◌≡◌, ◌≢◌, ℕ, ◌+◌, ◌<◌, Bool, false, cond, List, length, Option, Some, None, sym}
use Rattle.std.proofs.Common.{◌∙◌, inl, inr, arith, length-set, get_or-set_other, get_or-set_same, count_by}
use Rattle.std.proofs.lemmas.List.Sums.{sum_by-set}
use Rattle.std.proofs.lemmas.Bool.{cases_eq}
use Rattle.chess_board.specs.declared.men.Man.{Man}
use Rattle.chess_board.specs.Positions.{man_at, moved, cleared}

pub length-cleared : (men : List (Option Man)) (k : ℕ) → length (cleared men k) ≡ length men
length-cleared men k = length-set men k None

pub length-moved : (men : List (Option Man)) (a b : ℕ) (man : Man) → length (moved men a b man) ≡ length men
length-moved men a b man = length-set (cleared men a) b (Some man) ∙ length-cleared men a

pub cleared_here : (men : List (Option Man)) (k : ℕ) → k < length men → man_at (cleared men k) k ≡ None
cleared_here men k on = get_or-set_same men k None None on

pub cleared_other : (men : List (Option Man)) (k s : ℕ) → s ≢ k → man_at (cleared men k) s ≡ man_at men s
cleared_other men k s apart = get_or-set_other men k s None None apart

pub moved_target : (men : List (Option Man)) (a b : ℕ) (man : Man) → b < length men → man_at (moved men a b man) b ≡ Some man
moved_target men a b man on = get_or-set_same (cleared men a) b (Some man) None (let e = length-cleared men a in omega arith)

pub moved_other : (men : List (Option Man)) (a b : ℕ) (man : Man) (s : ℕ) → s ≢ a → s ≢ b → man_at (moved men a b man) s ≡ man_at men s
moved_other men a b man s from to = get_or-set_other (cleared men a) b s (Some man) None to ∙ cleared_other men a s from

pub moved_origin : (men : List (Option Man)) (a b : ℕ) (man : Man) → a < length men → a ≢ b → man_at (moved men a b man) a ≡ None
moved_origin men a b man on apart = get_or-set_other (cleared men a) b a (Some man) None apart ∙ cleared_here men a on

-- A count loses what stood on the cleared square.
pub count_by-cleared : (f : Option Man → Bool) (men : List (Option Man)) (k : ℕ) → f None ≡ false → k < length men →
    count_by f (cleared men k) + cond (f (man_at men k)) 1 0 ≡ count_by f men
count_by-cleared f men k none on =
    let g : Option Man → ℕ = λ x. cond (f x) 1 0 in
    let s = rw none at (sum_by-set g men k None None on) in
    omega (arith, s)

-- A count loses what stood on both squares, and gains the man that went.
pub count_by-moved : (f : Option Man → Bool) (men : List (Option Man)) (a b : ℕ) (man : Man) → f None ≡ false
    → a < length men → b < length men → b ≢ a →
    count_by f (moved men a b man) + cond (f (man_at men a)) 1 0 + cond (f (man_at men b)) 1 0 ≡ count_by f men + cond (f (Some man)) 1 0
count_by-moved f men a b man none a_on b_on apart =
    let g : Option Man → ℕ = λ x. cond (f x) 1 0 in
    let s = count_by-cleared f men a none a_on in
    let long : b < length (cleared men a) = rw length-set b_on in
    let u = rw (get_or-set_other men a b None None apart) at (sum_by-set g (cleared men a) b (Some man) None long) in
    omega (arith, s, u)

-- A count that takes the man that went for what it was loses what stood on the target.
pub count_by-went : (f : Option Man → Bool) (men : List (Option Man)) (a b : ℕ) (man new : Man) → f None ≡ false
    → a < length men → b < length men → b ≢ a →
    man_at men a ≡ Some man → f (Some new) ≡ f (Some man) → count_by f (moved men a b new) + cond (f (man_at men b)) 1 0 ≡ count_by f men
count_by-went f men a b man new none a_on b_on apart there same =
    let e = rw (there, same) at (count_by-moved f men a b new none a_on b_on apart) in omega (arith, e)

-- What holds of each place still holds where it holds of the man that went.
pub each_moved : (P : Option Man → ℕ → Type 0) (men : List (Option Man)) (a b : ℕ) (man : Man) → length men ≡ 64 → b < 64 → b ≢ a →
    ((s : ℕ) → s < 64 → P (man_at men s) s) → ((s : ℕ) → P None s) → P (Some man) b → (s : ℕ) → s < 64 → P (man_at (moved men a b man) s) s
each_moved P men a b man long b_on apart old none new s on = elim (cases_eq s b) [
  | inl here ↦ rw here (rw (moved_target men a b man (omega arith)) new)
  | inr to ↦ elim (cases_eq s a) [
    | inl here ↦ rw here (rw (moved_origin men a b man (omega arith) (λ e. apart (sym e))) (none a))
    | inr from ↦ rw (moved_other men a b man s from to) (old s on)
  ]
]

pub each_cleared : (P : Option Man → ℕ → Type 0) (men : List (Option Man)) (k : ℕ) → length men ≡ 64 →
    ((s : ℕ) → s < 64 → P (man_at men s) s) → ((s : ℕ) → P None s) → (s : ℕ) → s < 64 → P (man_at (cleared men k) s) s
each_cleared P men k long old none s on = elim (cases_eq s k) [
  | inl here ↦ rw here (rw (cleared_here men k (omega arith)) (none k))
  | inr from ↦ rw (cleared_other men k s from) (old s on)
]
