-- What a slider reaches.
use Rattle.std.proofs.Common.{◌≡◌, ◌≢◌, ℕ, ◌<◌, Bool, true, false, not, ◌&&◌, eqb, refl, sym, ap, ◌∙◌}
use Rattle.std.proofs.lemmas.Bool.{and_parts, and_from, eqb-true, eqb-false, false_from_ne_true, not-true, not_from_false}
use Rattle.std.proofs.Math.Bool.{and-false}
use Rattle.chess_moves.specs.declared.directions.Direction.{Direction}
use Rattle.chess_moves.specs.inside.Directions.{toward, opposite, is_blocked, is_hidden, reaches}
use Rattle.chess_moves.proofs.AnyLemmas.{any_same, any_none, any_at, any_some}
use Rattle.chess_moves.proofs.Geometry.{toward_on, toward_back, toward_self}

-- a man that stands between
pub blocked_at : (taken : ℕ → Bool) (d : Direction) (a b s : ℕ) → s < 64 → toward d a s ≡ true → toward d s b ≡ true
    → taken s ≡ true → is_blocked taken d a b ≡ true
blocked_at taken d a b s l h k t = any_at (λ s. toward d a s && toward d s b && taken s) 64 s l
    (and_from (toward d a s && toward d s b) (taken s) (and_from (toward d a s) (toward d s b) h k) t)

pub record Blocker (taken : ℕ → Bool) (d : Direction) (a b : ℕ) : Type 0 where
  pub square : ℕ
  pub on_board : square < 64
  pub behind : toward d a square ≡ true
  pub before : toward d square b ≡ true
  pub is_taken : taken square ≡ true

pub blocker_of : (taken : ℕ → Bool) (d : Direction) (a b : ℕ) → is_blocked taken d a b ≡ true → Blocker taken d a b
blocker_of taken d a b h =
    let found = any_some (λ s. toward d a s && toward d s b && taken s) 64 h in
    let s : ℕ = found.0 in
    let x = and_parts (toward d a s && toward d s b) (taken s) found.2 in
    let y = and_parts (toward d a s) (toward d s b) x.0 in
    record { square = s; on_board = found.1; behind = y.0; before = y.1; is_taken = x.1 }

-- what is blocked one way is blocked the other way
pub blocked_back : (taken : ℕ → Bool) (d : Direction) (a b : ℕ) → is_blocked taken (opposite d) b a ≡ is_blocked taken d a b
blocked_back taken d a b = any_same (λ s. toward (opposite d) b s && toward (opposite d) s a && taken s)
    (λ s. toward d a s && toward d s b && taken s) 64
    (λ s l. rw (toward_back d s b, toward_back d a s) (turned (toward d s b) (toward d a s) (taken s)))
  where
    turned : (x y z : Bool) → (x && y && z) ≡ (y && x && z)
    turned true true z = refl
    turned true false z = refl
    turned false true z = refl
    turned false false z = refl

-- A man goes away from o, and no other square is left: a line to k that was blocked still is,
-- where some man stood between o and k.
pub still_blocked : (taken after : ℕ → Bool) (d : Direction) (a k o : ℕ)
    → ((s : ℕ) → s < 64 → s ≢ o → taken s ≡ true → after s ≡ true)
    → (toward d o k ≡ true → is_blocked taken d o k ≡ true)
    → is_blocked taken d a k ≡ true → is_blocked after d a k ≡ true
still_blocked taken after d a k o stays hidden h =
    let s = blocker_of taken d a k h in
    (elim (eqb s.square o) as (λ b. eqb s.square o ≡ b → is_blocked after d a k ≡ true) [
      | true ↦ λ t.
          let same : s.square ≡ o = eqb-true s.square o t in
          let from_o : toward d o k ≡ true = ap (λ x. toward d x k) (sym same) ∙ s.before in
          let to_o : toward d a o ≡ true = ap (λ x. toward d a x) (sym same) ∙ s.behind in
          let u = blocker_of taken d o k (hidden from_o) in
          let apart : u.square ≢ o = λ e. let self : toward d o o ≡ true =
          ap (λ x. toward d o x) (sym e) ∙ u.behind in let none = toward_self d o in cc in
          blocked_at after d a k u.square u.on_board (toward_on d a o u.square to_o u.behind) u.before (stays u.square u.on_board apart u.is_taken)
      | false ↦ λ f. blocked_at after d a k s.square s.on_board s.behind s.before (stays s.square s.on_board (eqb-false s.square o f) s.is_taken)
    ]) refl

-- so what is reached afterwards was reached before
pub reached_before : (taken after : ℕ → Bool) (d : Direction) (a k o : ℕ)
    → ((s : ℕ) → s < 64 → s ≢ o → taken s ≡ true → after s ≡ true)
    → (toward d o k ≡ true → is_blocked taken d o k ≡ true)
    → reaches after d a k ≡ true → reaches taken d a k ≡ true
reached_before taken after d a k o stays hidden h =
    let x = and_parts (toward d a k) (not (is_blocked after d a k)) h in
    let open_after = not-true (is_blocked after d a k) x.1 in
    and_from (toward d a k) (not (is_blocked taken d a k)) x.0
    (not_from_false (is_blocked taken d a k)
    (false_from_ne_true (is_blocked taken d a k) (λ e. let again = still_blocked taken after d a k o stays hidden e in cc)))

-- with the nearest man on the ray at b: what lies behind a man is what lies beyond b
pub hidden_beyond : (taken : ℕ → Bool) (d : Direction) (a b t : ℕ) → b < 64 → toward d a b ≡ true → taken b ≡ true
    → ((u : ℕ) → u < 64 → toward d a u ≡ true → taken u ≡ true → u ≢ b → toward d b u ≡ true)
    → toward d b t ≡ is_hidden taken d a t
hidden_beyond taken d a b t on line there first =
    (elim (toward d b t) as (λ x. toward d b t ≡ x → x ≡ (toward d a t && is_blocked taken d a t)) [
      | true ↦ λ e. sym (and_from (toward d a t) (is_blocked taken d a t) (toward_on d a b t line e) (blocked_at taken d a t b on line e there))
      | false ↦ λ e.
          let open_line : is_blocked taken d a t ≡ false = false_from_ne_true (is_blocked taken d a t) (λ h.
          let u = blocker_of taken d a t h in
          (elim (eqb u.square b) as (λ x. eqb u.square b ≡ x → ⊥) [
            | true ↦ λ same. let beyond : toward d b t ≡ true = ap (λ x. toward d x t) (sym (eqb-true u.square b same)) ∙ u.before in cc
            | false ↦ λ apart. let beyond = toward_on d b u.square t
                (first u.square u.on_board u.behind u.is_taken (eqb-false u.square b apart)) u.before in cc
          ]) refl) in
          rw open_line (sym (and-false (toward d a t)))
    ]) refl

-- with no man on the ray nothing of it is hidden
pub hidden_none : (taken : ℕ → Bool) (d : Direction) (a t : ℕ)
    → ((u : ℕ) → u < 64 → (toward d a u && taken u) ≡ false)
    → false ≡ is_hidden taken d a t
hidden_none taken d a t none =
    let open_line : is_blocked taken d a t ≡ false = any_none (λ s. toward d a s && toward d s t && taken s) 64
    (λ s l. dropped (toward d a s) (toward d s t) (taken s) (none s l)) in
    rw open_line (sym (and-false (toward d a t)))
  where
    dropped : (x y z : Bool) → (x && z) ≡ false → (x && y && z) ≡ false
    dropped true true z e = e
    dropped true false z e = refl
    dropped false y z e = refl
