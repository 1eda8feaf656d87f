-- What files hold.
use Rattle.std.specs.Prelude.{◌≡◌, ◌++◌, ◌⊎◌, ℕ, List, [], ◌∷◌, Option, Some, IfSome, Bool, true, false, if◌then◌else◌, length, ⊤}
use Rattle.byte_streams.specs.Inputs.{MayBe}

-- Of a file that was just opened all is left that its name holds, where that is known.
abbrev pub HasAll : Option (List ℕ) → Option (List ℕ) → Type 0
HasAll held left = IfSome held (λ all. left ≡ Some all)

-- Each input is what its name holds, where that is known.
abbrev pub Holds : (List ℕ → Option (List ℕ)) → List (List ℕ) → List (List ℕ) → Type 0
Holds holds [] [] = ⊤
Holds holds (name ∷ names) (input ∷ inputs) = MayBe (holds name) input × Holds holds names inputs
Holds holds _ _ = ⊥

-- What names hold that are, where that is so, no names but the texts themselves: each itself.
abbrev pub held : Bool → (List ℕ → Option (List ℕ)) → List ℕ → Option (List ℕ)
held are_texts holds name = if are_texts then Some name else holds name

-- Which of these may be refused: of the texts none.
abbrev pub held_back : Bool → (List ℕ → Type 0) → List ℕ → Type 0
held_back true refuses name = ⊥
held_back false refuses name = refuses name

-- One of the names is one that may be refused.
abbrev pub SomeRefused : (List ℕ → Type 0) → List (List ℕ) → Type 0
SomeRefused refuses [] = ⊥
SomeRefused refuses (name ∷ names) = refuses name ⊎ SomeRefused refuses names

-- There are as many inputs as names.
abbrev pub HoldsEach : Type 0
HoldsEach = (holds : List ℕ → Option (List ℕ)) (names inputs : List (List ℕ)) → Holds holds names inputs → length inputs ≡ length names

-- One name and its input more may stand behind them.
abbrev pub HoldsMore : Type 0
HoldsMore = (holds : List ℕ → Option (List ℕ)) (names inputs : List (List ℕ)) (name input : List ℕ)
    → Holds holds names inputs → MayBe (holds name) input → Holds holds (names ++ name ∷ []) (inputs ++ input ∷ [])
