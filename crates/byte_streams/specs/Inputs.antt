-- What an input gives, where that is known.
use Rattle.std.specs.Prelude.{◌≡◌, ℕ, List, Option, IfSome}

-- The bytes are the known ones. Where none are known, they may be any.
abbrev pub MayBe : Option (List ℕ) → List ℕ → Type 0
MayBe known bytes = IfSome known (λ all. bytes ≡ all)
