-- Finds, filters and tests over lists.
use Rattle.std.proofs.Common.{◌≡◌, ℕ, zero, suc, ◌+◌, ◌<◌, Bool, true, false, cond, not, ◌||◌, List, [], ◌∷◌, ◌++◌, length}
use Rattle.std.proofs.Common.{take, get_or, Some, None, refl, sym, ap, arith, filter, find, add-one, append-nil, ◌∙◌}
use Rattle.std.specs.List.{All, Contains, list_any, list_all}
use Rattle.std.proofs.lemmas.List.Elements.{filter_more, All-head, All-tail, All-contains_itself, Contains-append_right}
use Rattle.std.proofs.lemmas.List.Folds.{list_any_at}
use Rattle.std.specs.Prelude.{nat_lt}
use Rattle.std.proofs.lemmas.Bool.{and_parts, lt-ltb}

-- the first element that passes, where none before it does
find_here : {X : Type 0} (p : X → Bool) (xs : List X) (i : ℕ) (d : X) → i < length xs → find p (take i xs) ≡ None
    → p (get_or xs i d) ≡ true → find p xs ≡ Some (get_or xs i d)
find_here p [] i d h none passes = absurd (omega arith)
find_here p (x ∷ xs) zero d h none passes = rw passes
find_here p (x ∷ xs) (suc i) d h none passes = (elim (p x) as (λ b. p x ≡ b → find p (x ∷ xs) ≡ Some (get_or xs i d)) [
  | true ↦ λ t. let n = rw t at none in cc
  | false ↦ λ t. let n = rw t at none in rw t (find_here p xs i d (omega arith) n passes)
]) refl

find_none_suc : {X : Type 0} (p : X → Bool) (xs : List X) (i : ℕ) (d : X) → i < length xs → find p (take i xs) ≡ None
    → p (get_or xs i d) ≡ false → find p (take (suc i) xs) ≡ None
find_none_suc p [] i d h none fails = absurd (omega arith)
find_none_suc p (x ∷ xs) zero d h none fails = rw fails
find_none_suc p (x ∷ xs) (suc i) d h none fails = (elim (p x) as (λ b. p x ≡ b → find p (x ∷ take (suc i) xs) ≡ None) [
  | true ↦ λ t. let n = rw t at none in cc
  | false ↦ λ t. let n = rw t at none in rw t (find_none_suc p xs i d (omega arith) n fails)
]) refl

pub found_next : {X : Type 0} (p : X → Bool) (xs : List X) (i : ℕ) (x : X) → i < length xs → x ≡ get_or xs i x → find p (take i xs) ≡ None
    → p x ≡ true → find p xs ≡ Some x
found_next p xs i x on is none passes = find_here p xs i x on none (ap p (sym is) ∙ passes) ∙ ap Some (sym is)

-- one more element that does not
pub none_next : {X : Type 0} (p : X → Bool) (xs : List X) (i : ℕ) (x : X) → i < length xs → x ≡ get_or xs i x → find p (take i xs) ≡ None
    → p x ≡ false → find p (take (i + 1) xs) ≡ None
none_next p xs i x on is none fails = rw (add-one i) (find_none_suc p xs i x on none (ap p (sym is) ∙ fails))

pub any_weaker : {X : Type 0} (p q : X → Bool) (xs : List X) → ((x : X) → p x ≡ true → q x ≡ true) → list_any p xs ≡ true → list_any q xs ≡ true
any_weaker p q [] h e = e
any_weaker p q (x ∷ xs) h e = (elim (p x) as (λ b. p x ≡ b → list_any q (x ∷ xs) ≡ true) [
  | true ↦ λ t. rw (h x t)
  | false ↦ λ t. let more = any_weaker p q xs h (rw t at e) in elim (q x) as (λ b. (b || list_any q xs) ≡ true) [ true ↦ refl | false ↦ more ]
]) refl

pub all_weaker : {X : Type 0} (p q : X → Bool) (xs : List X) → ((x : X) → p x ≡ true → q x ≡ true) → list_all p xs ≡ true → list_all q xs ≡ true
all_weaker p q [] h e = e
all_weaker p q (x ∷ xs) h e = (elim (p x) as (λ b. p x ≡ b → list_all q (x ∷ xs) ≡ true) [
  | true ↦ λ t. rw (h x t) (all_weaker p q xs h (rw t at e))
  | false ↦ λ t. let n = rw t at e in cc
]) refl

all_of_some : {X : Type 0} (f p : X → Bool) (xs : List X) → list_all f xs ≡ true → list_all f (filter p xs) ≡ true
all_of_some f p [] e = e
all_of_some f p (x ∷ xs) e = let both = and_parts (f x) (list_all f xs) e in
    (elim (p x) as (λ b. p x ≡ b → list_all f (filter p (x ∷ xs)) ≡ true) [
      | true ↦ λ t. rw t (rw both.0 (all_of_some f p xs both.1))
      | false ↦ λ t. rw t (all_of_some f p xs both.1)
    ]) refl

some_of_more : {X : Type 0} (p : X → Bool) (xs : List X) → nat_lt 0 (length (filter p xs)) ≡ true → nat_lt 0 (length xs) ≡ true
some_of_more p [] e = e
some_of_more p (x ∷ xs) e = lt-ltb 0 (length (x ∷ xs)) (omega arith)

-- What holds of all holds of some of them.
pub all_kept : {X : Type 0} (f p : X → Bool) (xs kept : List X) → kept ≡ filter p xs → list_all f xs ≡ true → list_all f kept ≡ true
all_kept f p xs kept is e = rw is (all_of_some f p xs e)

-- Where there are some of them, there are some.
pub some_kept : {X : Type 0} (p : X → Bool) (xs kept : List X) → kept ≡ filter p xs → nat_lt 0 (length kept) ≡ true → nat_lt 0 (length xs) ≡ true
some_kept p xs kept is e = some_of_more p xs (rw is at e)

-- what a find finds
pub any_found : {X : Type 0} (p : X → Bool) (xs : List X) → list_any p xs ≡ true → (x : X) × (find p xs ≡ Some x) × (p x ≡ true)
any_found p [] e = cc
any_found {X} p (x ∷ xs) e = (elim (p x) as (λ b. p x ≡ b → (y : X) × (find p (x ∷ xs) ≡ Some y) × (p y ≡ true)) [
  | true ↦ λ t. (x, rw t, t)
  | false ↦ λ t. let more = any_found p xs (rw t at e) in (more.0, rw t more.1, more.2)
]) refl

pub none_found : {X : Type 0} (g f : X → Bool) (xs : List X) (x : X) → list_any g xs ≡ false → find f xs ≡ Some x → g x ≡ false
none_found g f [] x e h = cc
none_found {X} g f (y ∷ ys) x e h = (elim (g y) as (λ b. g y ≡ b → g x ≡ false) [
  | true ↦ λ t. let n = rw t at e in cc
  | false ↦ λ t. (elim (f y) as (λ b. f y ≡ b → g x ≡ false) [
    | true ↦ λ u. let h' = rw u at h in let same : y ≡ x = cc in rw same at t
    | false ↦ λ u. none_found g f ys x (rw t at e) (rw u at h)
  ]) refl
]) refl

pub all_found : {X : Type 0} (g f : X → Bool) (xs : List X) (x : X) → list_all g xs ≡ true → find f xs ≡ Some x → g x ≡ true
all_found g f [] x e h = cc
all_found {X} g f (y ∷ ys) x e h = (elim (g y) as (λ b. g y ≡ b → g x ≡ true) [
  | false ↦ λ t. let n = rw t at e in cc
  | true ↦ λ t. (elim (f y) as (λ b. f y ≡ b → g x ≡ true) [
    | true ↦ λ u. let h' = rw u at h in let same : y ≡ x = cc in rw same at t
    | false ↦ λ u. all_found g f ys x (rw t at e) (rw u at h)
  ]) refl
]) refl

pub all_fails : {X : Type 0} (p : X → Bool) (xs : List X) → list_all p xs ≡ false → (x : X) × (find (λ y. not (p y)) xs ≡ Some x) × (p x ≡ false)
all_fails p [] e = cc
all_fails {X} p (x ∷ xs) e = (elim (p x) as (λ b. p x ≡ b → (y : X) × (find (λ z. not (p z)) (x ∷ xs) ≡ Some y) × (p y ≡ false)) [
  | false ↦ λ t. (x, rw t, t)
  | true ↦ λ t. let more = all_fails p xs (rw t at e) in (more.0, rw t more.1, more.2)
]) refl

-- one more element that a filter keeps, or leaves out
pub kept_more : {X : Type 0} (p : X → Bool) (xs : List X) (i : ℕ) (x : X) (old new : List X) → i < length xs → x ≡ get_or xs i x
    → p x ≡ true → old ≡ filter p (take i xs) → new ≡ old ++ x ∷ [] → new ≡ filter p (take (i + 1) xs)
kept_more p xs i x old new on is passes e n = rw (filter_more p xs i x on) (rw (← is) (rw passes (rw (← e) n)))

pub left_out : {X : Type 0} (p : X → Bool) (xs : List X) (i : ℕ) (x : X) (old : List X) → i < length xs → x ≡ get_or xs i x
    → p x ≡ false → old ≡ filter p (take i xs) → old ≡ filter p (take (i + 1) xs)
left_out p xs i x old on is fails e = rw (filter_more p xs i x on) (rw (← is) (rw fails (rw (append-nil (filter p (take i xs))) e)))

-- What is found is one of the list.
pub found_has : {X : Type 0} (P : X → Type 0) (f : X → Bool) (xs : List X) (x : X) → All P xs → find f xs ≡ Some x → P x
found_has P f [] x h e = cc
found_has P f (y ∷ ys) x h e = (elim (f y) as (λ b. f y ≡ b → P x) [
  | true ↦ λ t. let e' = rw t at e in let same : y ≡ x = cc in rw same at (All-head P y ys h)
  | false ↦ λ t. found_has P f ys x (All-tail P y ys h) (rw t at e)
]) refl

pub any_contains : {X : Type 0} (f : X → Bool) (xs : List X) → list_any f xs ≡ true → (x : X) × Contains xs x × (f x ≡ true)
any_contains f xs e = let found = any_found f xs e in (found.0, found_has (Contains xs) f xs found.0 (All-contains_itself xs) found.1, found.2)

pub contains_any : {X : Type 0} (f : X → Bool) (xs : List X) (x : X) → Contains xs x → f x ≡ true → list_any f xs ≡ true
contains_any f xs x (k, on, e) t = list_any_at f xs k x on (ap f e ∙ t)

pub all_contains : {X : Type 0} (f : X → Bool) (xs : List X) (x : X) → list_all f xs ≡ true → Contains xs x → f x ≡ true
all_contains f [] x h (k, on, e) = absurd (omega arith)
all_contains f (y ∷ ys) x h (zero, on, e) = ap f (sym e) ∙ (and_parts (f y) (list_all f ys) h).0
all_contains f (y ∷ ys) x h (suc k, on, e) = all_contains f ys x (and_parts (f y) (list_all f ys) h).1 (k, omega arith, e)

pub contains_all : {X : Type 0} (f : X → Bool) (xs : List X) → ((x : X) → Contains xs x → f x ≡ true) → list_all f xs ≡ true
contains_all f [] h = refl
contains_all f (y ∷ ys) h = rw (h y (0, omega arith, refl)) (contains_all f ys (λ x c. h x (Contains-append_right (y ∷ []) ys x c)))

pub filter_keeps : {X : Type 0} (f : X → Bool) (xs : List X) (x : X) → Contains xs x → f x ≡ true → Contains (filter f xs) x
filter_keeps f [] x (k, on, e) t = absurd (omega arith)
filter_keeps f (y ∷ ys) x (zero, on, e) t =
    let g : f y ≡ true = ap f e ∙ t in
    rw g (0, omega arith, e)
filter_keeps f (y ∷ ys) x (suc k, on, e) t =
    let r = filter_keeps f ys x (k, omega arith, e) t in
    elim (f y) as (λ b. Contains (cond b (y ∷ filter f ys) (filter f ys)) x) [ true ↦ Contains-append_right (y ∷ []) (filter f ys) x r | false ↦ r ]
