-- A set of squares is gone through, square by square, and those that pass a test are kept.
use Rattle.std.proofs.Common.{◌≡◌, ℕ, ◌<◌, Bool, true, false, not, ◌&&◌, ◌||◌, eqb, refl, sym, ◌∙◌}
use Rattle.std.proofs.lemmas.Bool.{and_parts, eqb-true}
use Rattle.square_sets.specs.Members.{has}
use Rattle.square_sets.specs.BitScan.{IsSplit}
use Rattle.chess_moves.proofs.SetBits.{has_none}

-- Of the set `all` the squares of `rest` are still to come, and `kept` are those that passed before.
pub record IsSifted (all rest kept : ℕ) (passes : ℕ → Bool) : Type 0 where
  pub kept_are : (t : ℕ) → t < 64 → has kept t ≡ (has all t && (not (has rest t) && passes t))
  pub within : (t : ℕ) → t < 64 → has rest t ≡ true → has all t ≡ true

pub sifted_none : (all : ℕ) (passes : ℕ → Bool) → IsSifted all all 0 passes
sifted_none all passes = record { kept_are = λ t on. rw (has_none 0 t refl) (none (has all t) (passes t)); within = λ t on h. h }
  where
    none : (a p : Bool) → false ≡ (a && (not a && p))
    none true p = refl
    none false p = refl

pub sifted_all : (all rest kept : ℕ) (passes : ℕ → Bool) → rest ≡ 0 → IsSifted all rest kept passes → (t : ℕ)
    → t < 64 → has kept t ≡ (has all t && passes t)
sifted_all all rest kept passes done h t on = rw (done, has_none 0 t refl) at (h.kept_are t on)

module _ (all rest left kept s : ℕ) (passes : ℕ → Bool) (h : IsSifted all rest kept passes) (split : IsSplit rest s left) where
  still_within : (t : ℕ) → t < 64 → has left t ≡ true → has all t ≡ true
  still_within t on there = h.within t on ((and_parts (not (eqb t s)) (has rest t) (sym (split.others t on) ∙ there)).1)

  -- the next square, which passes
  pub sifted_in : (more : ℕ) → ((t : ℕ) → t < 64 → has more t ≡ (eqb t s || has kept t)) → passes s ≡ true → IsSifted all left more passes
  sifted_in more more_is pass = record {
    kept_are = λ t on. rw (more_is t on, split.others t on, h.kept_are t on) ((elim (eqb t s) as (λ b. eqb t s ≡ b
        → (b || has all t && (not (has rest t) && passes t)) ≡ (has all t && (not (not b && has rest t) && passes t))) [
          | true ↦ λ e. let same = eqb-true t s e in let there = h.within s split.lowest.on_board split.lowest.there in rw (same, there, pass) refl
          | false ↦ λ e. refl
        ]) refl);
    within = still_within;
  }

  -- the next square, which does not
  pub sifted_out : passes s ≡ false → IsSifted all left kept passes
  sifted_out fails = record {
    kept_are = λ t on. rw (split.others t on, h.kept_are t on) ((elim (eqb t s) as (λ b. eqb t s ≡ b
        → (has all t && (not (has rest t) && passes t)) ≡ (has all t && (not (not b && has rest t) && passes t))) [
          | true ↦ λ e. let same = eqb-true t s e in let next = split.lowest.there in rw (same, next, fails) refl
          | false ↦ λ e. refl
        ]) refl);
    within = still_within;
  }
