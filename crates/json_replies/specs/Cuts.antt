-- A text cut at one of its bytes.
use Rattle.std.specs.Prelude.{ℕ, ◌-◌, ◌==◌, List, [], ◌∷◌, Bool, ◌&&◌, if◌then◌else◌}

-- whether it is cut here: at such a byte, where no others of its kind are still to be passed over
abbrev pub cuts_at : ℕ → ℕ → ℕ → Bool
cuts_at byte others b = (b == byte) && (others == 0)

-- how many others are still to be passed over behind a byte
abbrev pub others_behind : ℕ → ℕ → ℕ → ℕ
others_behind byte others b = if b == byte then others - 1 else others

-- what stands before such a byte, so many others passed over, or all where there is none
abbrev pub before : ℕ → ℕ → List ℕ → List ℕ
before byte others [] = []
before byte others (b ∷ bs) = if cuts_at byte others b then [] else b ∷ before byte (others_behind byte others b) bs

-- what stands from it on, or nothing
abbrev pub from_on : ℕ → ℕ → List ℕ → List ℕ
from_on byte others [] = []
from_on byte others (b ∷ bs) = if cuts_at byte others b then b ∷ bs else from_on byte (others_behind byte others b) bs
