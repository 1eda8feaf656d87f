-- A test that fails at every place counts nothing.
use Rattle.std.proofs.Common.{◌≡◌, ℕ, suc, ◌+◌, ◌<◌, List, [], ◌∷◌, Bool, false, length, get_or, count_by, refl, arith, cond}
use Rattle.std.proofs.lemmas.List.Sums.{sum_by-cons}

pub count_by-cons : {X : Type 0} (p : X → Bool) (x : X) (xs : List X) → count_by p (x ∷ xs) ≡ cond (p x) 1 0 + count_by p xs
count_by-cons p x xs = sum_by-cons (λ y. cond (p y) 1 0) x xs

pub count_by_none : {X : Type 0} (p : X → Bool) (xs : List X) (d : X) → ((k : ℕ) → k < length xs → p (get_or xs k d) ≡ false) → count_by p xs ≡ 0
count_by_none p [] d fails = refl
count_by_none p (x ∷ xs) d fails =
    let none : count_by p xs ≡ 0 = count_by_none p xs d (λ k inside. fails (suc k) (omega arith)) in
    let head : p x ≡ false = fails 0 (omega arith) in rw (count_by-cons, head) (omega arith)
