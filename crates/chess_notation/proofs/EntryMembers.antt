-- Which entries are kept, and that a list that rises by opcode is fixed by its members.
use Rattle.std.proofs.Common.{◌≡◌, ◌⊎◌, ℕ, List, [], ◌∷◌, Bool, true, false, refl, ap, sym, ◌∙◌, inl, inr, if◌then◌else◌}
use Rattle.std.specs.Prelude.{Contains}
use Rattle.chess_notation.specs.Operations.{Entry}
use Rattle.chess_notation.specs.Opcodes.{comes_before, is_own, IsBelow, RisesByOpcode, with_entry}
use Rattle.chess_notation.specs.inside.RecordReading.{inserted}
use Rattle.chess_notation.proofs.Members.{in_front, in_back, in_none, in_cases, in_same}
use Rattle.chess_notation.proofs.TextOrder.{comes_before_trans, comes_before_self}
use Rattle.chess_notation.proofs.EntryOrder.{kept_entries}

-- One entry more.
with_from_if : (first : Bool) (entry next : Entry) (done : List Entry) (x : Entry) → (Contains (with_entry entry done) x → Contains (entry ∷ done) x)
    → Contains (if first then entry ∷ next ∷ done else next ∷ with_entry entry done) x → Contains (entry ∷ next ∷ done) x
with_from_if true entry next done x later h = h
with_from_if false entry next done x later h = elim (in_cases next (with_entry entry done) x h) [
  | inl e ↦ in_back entry (next ∷ done) x (in_same (next ∷ done) x next e (in_front next done))
  | inr more ↦ elim (in_cases entry done x (later more)) [
    | inl e ↦ in_same (entry ∷ next ∷ done) x entry e (in_front entry (next ∷ done))
    | inr old ↦ in_back entry (next ∷ done) x (in_back next done x old)
  ]
]

with_from : (entry : Entry) (done : List Entry) (x : Entry) → Contains (with_entry entry done) x → Contains (entry ∷ done) x
with_from entry [] x h = h
with_from entry (next ∷ done) x h = with_from_if (comes_before entry.opcode next.opcode) entry next done x (with_from entry done x) h

with_to_if : (first : Bool) (entry next : Entry) (done : List Entry) (x : Entry) → (Contains (entry ∷ done) x → Contains (with_entry entry done) x)
    → Contains (entry ∷ next ∷ done) x → Contains (if first then entry ∷ next ∷ done else next ∷ with_entry entry done) x
with_to_if true entry next done x later h = h
with_to_if false entry next done x later h = elim (in_cases entry (next ∷ done) x h) [
  | inl e ↦ in_back next (with_entry entry done) x (later (in_same (entry ∷ done) x entry e (in_front entry done)))
  | inr more ↦ elim (in_cases next done x more) [
    | inl e ↦ in_same (next ∷ with_entry entry done) x next e (in_front next (with_entry entry done))
    | inr old ↦ in_back next (with_entry entry done) x (later (in_back entry done x old))
  ]
]

with_to : (entry : Entry) (done : List Entry) (x : Entry) → Contains (entry ∷ done) x → Contains (with_entry entry done) x
with_to entry [] x h = h
with_to entry (next ∷ done) x h = with_to_if (comes_before entry.opcode next.opcode) entry next done x (with_to entry done x) h

pub inserted_from : (done entries : List Entry) (x : Entry) → Contains (inserted done entries) x → Contains done x ⊎ Contains entries x
inserted_from done [] x h = inl h
inserted_from done (entry ∷ entries) x h = elim (inserted_from (with_entry entry done) entries x h) [
  | inl more ↦ elim (in_cases entry done x (with_from entry done x more)) [
    | inl e ↦ inr (in_same (entry ∷ entries) x entry e (in_front entry entries))
    | inr old ↦ inl old
  ]
  | inr later ↦ inr (in_back entry entries x later)
]

pub inserted_to : (done entries : List Entry) (x : Entry) → Contains done x ⊎ Contains entries x → Contains (inserted done entries) x
inserted_to done [] x (inl h) = h
inserted_to done [] x (inr h) = absurd (in_none x h)
inserted_to done (entry ∷ entries) x (inl h) = inserted_to (with_entry entry done) entries x (inl (with_to entry done x (in_back entry done x h)))
inserted_to done (entry ∷ entries) x (inr h) = elim (in_cases entry entries x h) [
  | inl e ↦ inserted_to (with_entry entry done) entries x (inl (with_to entry done x (in_same (entry ∷ done) x entry e (in_front entry done))))
  | inr later ↦ inserted_to (with_entry entry done) entries x (inr later)
]

-- Kept are the entries that an answer does not write itself.
kept_from_if : (own : Bool) (entry : Entry) (entries kept : List Entry) (x : Entry) → is_own entry.opcode ≡ own
    → (Contains kept x → Contains entries x × (is_own x.opcode ≡ false))
    → Contains (if own then kept else entry ∷ kept) x → Contains (entry ∷ entries) x × (is_own x.opcode ≡ false)
kept_from_if true entry entries kept x own later h = let got = later h in (in_back entry entries x got.0, got.1)
kept_from_if false entry entries kept x own later h = elim (in_cases entry kept x h) [
  | inl e ↦ (in_same (entry ∷ entries) x entry e (in_front entry entries), ap (λ t. is_own t.opcode) e ∙ own)
  | inr more ↦ let got = later more in (in_back entry entries x got.0, got.1)
]

pub kept_from : (entries : List Entry) (x : Entry) → Contains (kept_entries entries) x → Contains entries x × (is_own x.opcode ≡ false)
kept_from [] x h = absurd (in_none x h)
kept_from (entry ∷ entries) x h = kept_from_if (is_own entry.opcode) entry entries (kept_entries entries) x refl (kept_from entries x) h

kept_to_if : (own : Bool) (entry : Entry) (entries kept : List Entry) (x : Entry) → is_own entry.opcode ≡ own → is_own x.opcode ≡ false
    → (Contains entries x → Contains kept x)
    → Contains (entry ∷ entries) x → Contains (if own then kept else entry ∷ kept) x
kept_to_if true entry entries kept x own free later h = elim (in_cases entry entries x h) [
  | inl e ↦ (let bad : is_own x.opcode ≡ true = ap (λ t. is_own t.opcode) e ∙ own in cc)
  | inr more ↦ later more
]
kept_to_if false entry entries kept x own free later h = elim (in_cases entry entries x h) [
  | inl e ↦ in_same (entry ∷ kept) x entry e (in_front entry kept)
  | inr more ↦ in_back entry kept x (later more)
]

pub kept_to : (entries : List Entry) (x : Entry) → Contains entries x → is_own x.opcode ≡ false → Contains (kept_entries entries) x
kept_to [] x h free = h
kept_to (entry ∷ entries) x h free =
    kept_to_if (is_own entry.opcode) entry entries (kept_entries entries) x refl free (λ more. kept_to entries x more free) h

-- Two rising lists with the same members are one list.
below_member : (opcode : List ℕ) (entries : List Entry) → IsBelow opcode entries → (x : Entry)
    → Contains entries x → comes_before opcode x.opcode ≡ true
below_member opcode [] below x h = absurd (in_none x h)
below_member opcode (entry ∷ entries) below x h = elim (in_cases entry entries x h) [
  | inl e ↦ ap (λ t. comes_before opcode t.opcode) e ∙ below.0
  | inr more ↦ below_member opcode entries below.1 x more
]

not_self : (a : List ℕ) → comes_before a a ≡ true → ⊥
not_self a h = let never : comes_before a a ≡ false = comes_before_self a in cc

fronts_same : (x y : Entry) (xs ys : List Entry) → IsBelow x.opcode xs → IsBelow y.opcode ys → Contains (y ∷ ys) x → Contains (x ∷ xs) y → x ≡ y
fronts_same x y xs ys below under h k = elim (in_cases y ys x h) [
  | inl e ↦ e
  | inr one ↦ elim (in_cases x xs y k) [
    | inl e ↦ sym e
    | inr two ↦ absurd (not_self x.opcode (comes_before_trans x.opcode y.opcode x.opcode (below_member x.opcode xs below y two)
        (below_member y.opcode ys under x one)))
  ]
]

backs_in : (x y : Entry) (xs ys : List Entry) → x ≡ y → IsBelow x.opcode xs → ((z : Entry) → Contains (x ∷ xs) z → Contains (y ∷ ys) z) → (z : Entry)
    → Contains xs z → Contains ys z
backs_in x y xs ys same below all z h = elim (in_cases y ys z (all z (in_back x xs z h))) [
  | inl e ↦ absurd (not_self x.opcode (ap (λ t. comes_before x.opcode t.opcode) (same ∙ sym e) ∙ below_member x.opcode xs below z h))
  | inr more ↦ more
]

pub rising_same : (xs ys : List Entry) → RisesByOpcode xs → RisesByOpcode ys → ((z : Entry) → Contains xs z → Contains ys z)
    → ((z : Entry) → Contains ys z → Contains xs z) → xs ≡ ys
rising_same [] [] rises climbs to from = refl
rising_same [] (y ∷ ys) rises climbs to from = absurd (in_none y (from y (in_front y ys)))
rising_same (x ∷ xs) [] rises climbs to from = absurd (in_none x (to x (in_front x xs)))
rising_same (x ∷ xs) (y ∷ ys) rises climbs to from =
    let front : x ≡ y = fronts_same x y xs ys rises.0 climbs.0 (to x (in_front x xs)) (from y (in_front y ys)) in
    ap (λ t. t ∷ xs) front
    ∙ ap (λ t. y ∷ t) (rising_same xs ys rises.1 climbs.1 (backs_in x y xs ys front rises.0 to) (backs_in y x ys xs (sym front) climbs.0 from))
