-- Something for each submitter.
use Rattle.std.proofs.Common.{◌≡◌, ◌≢◌, ℕ, zero, suc, ◌+◌, ◌<◌, ◌≤◌, map, slice_get, Bool, true, false, ap, refl, ◌∙◌, subst, arith, None, Some, ◌||◌}
use Rattle.std.specs.List.{list_any}
use Rattle.mate_desk.specs.Content.{QueueValue}
use Rattle.mate_desk.specs.Calls.{change_at}
use Rattle.mate_desk.specs.Replies.{from}

pub get_in : {A : Type 0} (f : ℕ → A) (k n s : ℕ) → s < n → slice_get (map f (from k n)) s ≡ Some (f (k + s))
get_in f k zero s h = absurd (omega arith)
get_in f k (suc n) zero h = let e : k ≡ k + 0 = omega arith in ap (λ i. Some (f i)) e
get_in f k (suc n) (suc s) h = let e : k + 1 + s ≡ k + suc s = omega arith in get_in f (k + 1) n s (omega arith) ∙ ap (λ i. Some (f i)) e

pub get_out : {A : Type 0} (f : ℕ → A) (k n s : ℕ) → n ≤ s → slice_get (map f (from k n)) s ≡ None
get_out f k zero s h = refl
get_out f k (suc n) zero h = absurd (omega arith)
get_out f k (suc n) (suc s) h = get_out f (k + 1) n s (omega arith)

pub map_from : {A B : Type 0} (f : ℕ → A) (g : A → B) (e : ℕ → B) (k n : ℕ) → ((i : ℕ) → g (f i) ≡ e i) → map g (map f (from k n)) ≡ map e (from k n)
map_from f g e k zero h = refl
map_from f g e k (suc n) h = let a = h k in let b = map_from f g e (k + 1) n h in cc

pub map_same : {A : Type 0} (f e : ℕ → A) (k n : ℕ) → ((i : ℕ) → k ≤ i → f i ≡ e i) → map f (from k n) ≡ map e (from k n)
map_same f e k zero h = refl
map_same f e k (suc n) h = let a = h k (omega arith) in let b = map_same f e (k + 1) n (λ i q. h i (omega arith)) in cc

pub change_from : (f e : ℕ → QueueValue) (g : QueueValue → QueueValue) (k n s : ℕ) → ((i : ℕ) → i ≢ k + s → f i ≡ e i)
    → g (f (k + s)) ≡ e (k + s) → change_at s g (map f (from k n)) ≡ map e (from k n)
change_from f e g k zero s h w = refl
change_from f e g k (suc n) zero h w =
    let p : k + 0 ≡ k = omega arith in
    let a : g (f k) ≡ e k = subst (λ i. g (f i) ≡ e i) p w in
    let b = map_same f e (k + 1) n (λ i q. h i (λ r. omega (arith, q, r))) in
    cc
change_from f e g k (suc n) (suc s) h w =
    let a = h k (λ r. omega (arith, r)) in
    let p : k + suc s ≡ k + 1 + s = omega arith in
    let b = change_from f e g (k + 1) n s (λ i q. h i (λ r. q (r ∙ p))) (subst (λ i. g (f i) ≡ e i) p w) in
    cc

-- a test that some queue passes
pub any_from : (p : QueueValue → Bool) (f : ℕ → QueueValue) (k n : ℕ) (P : Type 0) → ((i : ℕ) → p (f i) ≡ true → P)
    → list_any p (map f (from k n)) ≡ true → P
any_from p f k zero P h e = cc
any_from p f k (suc n) P h e = (elim (p (f k)) as (λ b. p (f k) ≡ b → (b || list_any p (map f (from (k + 1) n))) ≡ true → P) [
  | true ↦ λ w g. h k w
  | false ↦ λ w g. any_from p f (k + 1) n P h g
]) refl e
