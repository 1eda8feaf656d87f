-- An operation put at its place among others.
use Rattle.std.proofs.Common.{◌≡◌, ◌≢◌, ◌⊎◌, ℕ, List, [], ◌∷◌, Bool, true, false, Contains, map, refl, ap, sym, subst, inl, inr, if◌then◌else◌}
use Rattle.chess_notation.specs.Operations.{Operation, entry_of}
use Rattle.chess_notation.specs.Opcodes.{comes_before, with_entry}
use Rattle.chess_notation.specs.Records.{AreOnce}
use Rattle.chess_notation.proofs.Members.{in_front, in_back, in_none, in_cases, in_same}

-- each operation of the list has the property
abbrev pub Each : (Operation → Type 0) → List Operation → Type 0
Each P operations = (x : Operation) → Contains operations x → P x

pub Each-tail : (P : Operation → Type 0) (o : Operation) (os : List Operation) → Each P (o ∷ os) → Each P os
Each-tail P o os each x at = each x (in_back o os x at)

-- the operations with one more before the first that its opcode comes before
abbrev pub with_operation : Operation → List Operation → List Operation
with_operation o [] = o ∷ []
with_operation o (next ∷ os) = if comes_before o.opcode next.opcode then o ∷ next ∷ os else next ∷ with_operation o os

map-with_operation-at : (before : Bool) (o next : Operation) (os : List Operation)
    → map entry_of (with_operation o os) ≡ with_entry (entry_of o) (map entry_of os)
    → map entry_of (if before then o ∷ next ∷ os else next ∷ with_operation o os)
    ≡ (if before then entry_of o ∷ entry_of next ∷ map entry_of os else entry_of next ∷ with_entry (entry_of o) (map entry_of os))
map-with_operation-at true o next os rest = refl
map-with_operation-at false o next os rest = ap (λ t. entry_of next ∷ t) rest

pub map-with_operation : (o : Operation) (os : List Operation) → map entry_of (with_operation o os) ≡ with_entry (entry_of o) (map entry_of os)
map-with_operation o [] = refl
map-with_operation o (next ∷ os) = map-with_operation-at (comes_before o.opcode next.opcode) o next os (map-with_operation o os)

with_operation_cases-at : (before : Bool) (o next : Operation) (os : List Operation) (x : Operation)
    → (Contains (with_operation o os) x → (x ≡ o) ⊎ Contains os x)
    → Contains (if before then o ∷ next ∷ os else next ∷ with_operation o os) x → (x ≡ o) ⊎ Contains (next ∷ os) x
with_operation_cases-at true o next os x rest at = in_cases o (next ∷ os) x at
with_operation_cases-at false o next os x rest at = elim (in_cases next (with_operation o os) x at) [
  | inl here ↦ inr (in_same (next ∷ os) x next here (in_front next os))
  | inr there ↦ elim (rest there) [
    | inl own ↦ inl own
    | inr other ↦ inr (in_back next os x other)
  ]
]

-- In the list stand the operation and the others, and no more.
pub with_operation_cases : (o : Operation) (os : List Operation) (x : Operation) → Contains (with_operation o os) x → (x ≡ o) ⊎ Contains os x
with_operation_cases o [] x at = in_cases o [] x at
with_operation_cases o (next ∷ os) x at = with_operation_cases-at (comes_before o.opcode next.opcode) o next os x (with_operation_cases o os x) at

with_operation_own-at : (before : Bool) (o next : Operation) (os : List Operation) → Contains (with_operation o os) o
    → Contains (if before then o ∷ next ∷ os else next ∷ with_operation o os) o
with_operation_own-at true o next os rest = in_front o (next ∷ os)
with_operation_own-at false o next os rest = in_back next (with_operation o os) o rest

pub with_operation_own : (o : Operation) (os : List Operation) → Contains (with_operation o os) o
with_operation_own o [] = in_front o []
with_operation_own o (next ∷ os) = with_operation_own-at (comes_before o.opcode next.opcode) o next os (with_operation_own o os)

with_operation_other-at : (before : Bool) (o next : Operation) (os : List Operation) (x : Operation)
    → (Contains os x → Contains (with_operation o os) x)
    → Contains (next ∷ os) x → Contains (if before then o ∷ next ∷ os else next ∷ with_operation o os) x
with_operation_other-at true o next os x rest at = in_back o (next ∷ os) x at
with_operation_other-at false o next os x rest at = elim (in_cases next os x at) [
  | inl here ↦ in_same (next ∷ with_operation o os) x next here (in_front next (with_operation o os))
  | inr there ↦ in_back next (with_operation o os) x (rest there)
]

pub with_operation_other : (o : Operation) (os : List Operation) (x : Operation) → Contains os x → Contains (with_operation o os) x
with_operation_other o [] x at = absurd (in_none x at)
with_operation_other o (next ∷ os) x at = with_operation_other-at (comes_before o.opcode next.opcode) o next os x (with_operation_other o os x) at

pub Each-with_operation : (P : Operation → Type 0) (o : Operation) (os : List Operation) → P o → Each P os → Each P (with_operation o os)
Each-with_operation P o os own each x at = elim (with_operation_cases o os x at) [
  | inl here ↦ subst P (sym here) own
  | inr there ↦ each x there
]

-- no operation of the list has the opcode
abbrev pub IsNew : List ℕ → List Operation → Type 0
IsNew opcode operations = Each (λ x. x.opcode ≢ opcode) operations

pub IsNew-with_operation : (opcode : List ℕ) (o : Operation) (os : List Operation) → o.opcode ≢ opcode
    → IsNew opcode os → IsNew opcode (with_operation o os)
IsNew-with_operation opcode o os = Each-with_operation (λ x. x.opcode ≢ opcode) o os

once_with_operation-at : (before : Bool) (o next : Operation) (os : List Operation) → IsNew o.opcode (next ∷ os)
    → AreOnce (next ∷ os) → AreOnce (with_operation o os)
    → AreOnce (if before then o ∷ next ∷ os else next ∷ with_operation o os)
once_with_operation-at true o next os new once rest = (new, once)
once_with_operation-at false o next os new once rest =
    (IsNew-with_operation next.opcode o os (λ e. new next (in_front next os) (sym e)) once.0, rest)

-- With a new opcode each one still stands once.
pub once_with_operation : (o : Operation) (os : List Operation) → IsNew o.opcode os → AreOnce os → AreOnce (with_operation o os)
once_with_operation o [] new once = (new, tt)
once_with_operation o (next ∷ os) new once =
    once_with_operation-at (comes_before o.opcode next.opcode) o next os new once
    (once_with_operation o os (Each-tail (λ x. x.opcode ≢ o.opcode) next os new) once.1)
