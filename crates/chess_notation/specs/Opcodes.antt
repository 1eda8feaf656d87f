-- The order of opcodes, and those that an answer writes itself.
use Rattle.std.specs.Prelude.{◌≡◌, ℕ, nat_lt, ◌==◌, List, [], ◌∷◌, codes, Bool, true, false, ◌&&◌, ◌||◌, if◌then◌else◌}
use Rattle.chess_notation.specs.Operations.{Entry}

abbrev pub same_text : List ℕ → List ℕ → Bool
same_text [] [] = true
same_text (x ∷ xs) (y ∷ ys) = (x == y) && same_text xs ys
same_text _ _ = false

-- Text comes before another in ASCII order: byte by byte, and the shorter one first where it begins the other.
abbrev pub comes_before : List ℕ → List ℕ → Bool
comes_before _ [] = false
comes_before [] (y ∷ ys) = true
comes_before (x ∷ xs) (y ∷ ys) = nat_lt x y || ((x == y) && comes_before xs ys)

-- what an answer writes itself, so that a record does not keep it
abbrev pub is_own : List ℕ → Bool
is_own opcode = same_text (codes "bm") opcode || same_text (codes "c0") opcode || same_text (codes "dm") opcode || same_text (codes "pv") opcode

-- The opcode comes before that of each entry.
abbrev pub IsBelow : List ℕ → List Entry → Type 0
IsBelow opcode [] = Unit {0}
IsBelow opcode (entry ∷ entries) = (comes_before opcode entry.opcode ≡ true) × IsBelow opcode entries

-- Each entry comes before all that follow it, so that no opcode stands there twice.
abbrev pub RisesByOpcode : List Entry → Type 0
RisesByOpcode [] = Unit {0}
RisesByOpcode (entry ∷ entries) = IsBelow entry.opcode entries × RisesByOpcode entries

-- No entry is one that an answer writes itself.
abbrev pub AreKept : List Entry → Type 0
AreKept [] = Unit {0}
AreKept (entry ∷ entries) = (is_own entry.opcode ≡ false) × AreKept entries

-- the entry put at its place in the order of opcodes
abbrev pub with_entry : Entry → List Entry → List Entry
with_entry entry [] = entry ∷ []
with_entry entry (next ∷ entries) = if comes_before entry.opcode next.opcode then entry ∷ next ∷ entries else next ∷ with_entry entry entries

-- the operands of the first entry with the opcode, or nothing
abbrev pub operands_under : List ℕ → List Entry → List ℕ
operands_under opcode [] = []
operands_under opcode (entry ∷ entries) = if same_text opcode entry.opcode then entry.operands else operands_under opcode entries
