-- What is told of each number below a number, and of one number more.
use Rattle.std.proofs.Common.{◌≡◌, ◌+◌, ◌++◌, ℕ, suc, List, sym, append_assoc, arith}
use Rattle.std.proofs.lemmas.List.{append-nil}
use Rattle.fen_explanations.specs.Sentences.{each_below}

pub none_told : (text : List ℕ) (told : ℕ → List ℕ) → text ≡ text ++ each_below 0 told
unfolding each_below
none_told text told = sym (append-nil text)

pub more_told : (old text : List ℕ) (told : ℕ → List ℕ) (n : ℕ) → text ≡ old ++ each_below n told
    → text ++ told n ≡ old ++ each_below (n + 1) told
unfolding each_below
more_told old text told n so_far =
    let next : n + 1 ≡ suc n = omega (arith) in
    rw (next, so_far) (append_assoc old (each_below n told) (told n))
