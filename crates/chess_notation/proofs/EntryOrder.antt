-- Entries put at their places one after the other rise by opcode, where no two have one opcode.
use Rattle.std.proofs.Common.{◌≡◌, ℕ, List, [], ◌∷◌, Bool, true, false, refl, ap, map, if◌then◌else◌}
use Rattle.std.specs.List.{list_all}
use Rattle.std.proofs.lemmas.Bool.{and_parts}
use mathlib.Core.Bool.{not}
use Rattle.chess_notation.specs.Words.{word_at}
use Rattle.chess_notation.specs.Operations.{Entry}
use Rattle.chess_notation.specs.Opcodes.{same_text, comes_before, is_own, IsBelow, RisesByOpcode, AreKept, with_entry}
use Rattle.chess_notation.specs.RecordFields.{entry_in}
use Rattle.chess_notation.specs.EpdFaults.{differs_from, are_distinct}
use Rattle.chess_notation.specs.inside.RecordReading.{kept, inserted, rest_of}
use Rattle.chess_notation.proofs.TextOrder.{comes_before_trans, comes_before_or_after}

-- No entry has the opcode.
abbrev pub IsOther : List ℕ → List Entry → Type 0
IsOther opcode [] = Unit {0}
IsOther opcode (entry ∷ entries) = (same_text opcode entry.opcode ≡ false) × IsOther opcode entries

abbrev pub AreDistinct : List Entry → Type 0
AreDistinct [] = Unit {0}
AreDistinct (entry ∷ entries) = IsOther entry.opcode entries × AreDistinct entries

-- No entry has the opcode of one that is done.
abbrev pub AreNew : List Entry → List Entry → Type 0
AreNew [] entries = Unit {0}
AreNew (next ∷ done) entries = IsOther next.opcode entries × AreNew done entries

-- the entries that an answer does not write itself
abbrev pub kept_entries : List Entry → List Entry
kept_entries [] = []
kept_entries (entry ∷ entries) = if is_own entry.opcode then kept_entries entries else entry ∷ kept_entries entries

pub kept_shown : (segments : List (List ℕ)) → kept segments ≡ kept_entries (map entry_in segments)
kept_shown [] = refl
kept_shown (segment ∷ segments) = ap (λ entries. if is_own (word_at segment) then entries else entry_in segment ∷ entries) (kept_shown segments)

not_true : (b : Bool) → not b ≡ true → b ≡ false
not_true true h = cc
not_true false h = refl

shown_other : (opcode : List ℕ) (segments : List (List ℕ)) → list_all (differs_from opcode) segments ≡ true → IsOther opcode (map entry_in segments)
shown_other opcode [] h = tt
shown_other opcode (segment ∷ segments) h =
    let parts = and_parts (differs_from opcode segment) (list_all (differs_from opcode) segments) h in
    (not_true (same_text opcode (word_at segment)) parts.0, shown_other opcode segments parts.1)

pub shown_distinct : (segments : List (List ℕ)) → are_distinct segments ≡ true → AreDistinct (map entry_in segments)
shown_distinct [] h = tt
shown_distinct (segment ∷ segments) h =
    let parts = and_parts (list_all (differs_from (word_at segment)) segments) (are_distinct segments) h in
    (shown_other (word_at segment) segments parts.0, shown_distinct segments parts.1)

other_if : (own : Bool) (opcode : List ℕ) (entry : Entry) (entries : List Entry) → same_text opcode entry.opcode ≡ false → IsOther opcode entries
    → IsOther opcode (if own then entries else entry ∷ entries)
other_if true opcode entry entries here more = more
other_if false opcode entry entries here more = (here, more)

kept_other : (opcode : List ℕ) (entries : List Entry) → IsOther opcode entries → IsOther opcode (kept_entries entries)
kept_other opcode [] h = tt
kept_other opcode (entry ∷ entries) h = other_if (is_own entry.opcode) opcode entry (kept_entries entries) h.0 (kept_other opcode entries h.1)

distinct_if : (own : Bool) (entry : Entry) (entries : List Entry) → IsOther entry.opcode entries → AreDistinct entries
    → AreDistinct (if own then entries else entry ∷ entries)
distinct_if true entry entries here more = more
distinct_if false entry entries here more = (here, more)

pub kept_distinct : (entries : List Entry) → AreDistinct entries → AreDistinct (kept_entries entries)
kept_distinct [] h = tt
kept_distinct (entry ∷ entries) h = distinct_if (is_own entry.opcode) entry (kept_entries entries)
    (kept_other entry.opcode entries h.0) (kept_distinct entries h.1)

-- One entry more.
new_if : (first : Bool) (entry next : Entry) (done entries : List Entry) → IsOther entry.opcode entries → AreNew (next ∷ done) entries
    → AreNew (with_entry entry done) entries
    → AreNew (if first then entry ∷ next ∷ done else next ∷ with_entry entry done) entries
new_if true entry next done entries other new later = (other, new)
new_if false entry next done entries other new later = (new.0, later)

new_with : (entry : Entry) (done entries : List Entry) → IsOther entry.opcode entries → AreNew done entries → AreNew (with_entry entry done) entries
new_with entry [] entries other new = (other, tt)
new_with entry (next ∷ done) entries other new =
    new_if (comes_before entry.opcode next.opcode) entry next done entries other new (new_with entry done entries other new.1)

new_later : (done : List Entry) (entry : Entry) (entries : List Entry) → AreNew done (entry ∷ entries) → AreNew done entries
new_later [] entry entries new = tt
new_later (next ∷ done) entry entries new = (new.0.1, new_later done entry entries new.1)

below_all : (opcode : List ℕ) (next : List ℕ) (entries : List Entry) → comes_before opcode next ≡ true → IsBelow next entries → IsBelow opcode entries
below_all opcode next [] before below = tt
below_all opcode next (entry ∷ entries) before below =
    (comes_before_trans opcode next entry.opcode before below.0, below_all opcode next entries before below.1)

below_if : (first : Bool) (opcode : List ℕ) (entry next : Entry) (done : List Entry) → comes_before opcode entry.opcode ≡ true
    → IsBelow opcode (next ∷ done) → IsBelow opcode (with_entry entry done)
    → IsBelow opcode (if first then entry ∷ next ∷ done else next ∷ with_entry entry done)
below_if true opcode entry next done before below later = (before, below)
below_if false opcode entry next done before below later = (below.0, later)

below_with : (opcode : List ℕ) (entry : Entry) (done : List Entry) → comes_before opcode entry.opcode ≡ true → IsBelow opcode done
    → IsBelow opcode (with_entry entry done)
below_with opcode entry [] before below = (before, tt)
below_with opcode entry (next ∷ done) before below =
    below_if (comes_before entry.opcode next.opcode) opcode entry next done before below (below_with opcode entry done before below.1)

rises_if : (first : Bool) (entry next : Entry) (done : List Entry) → comes_before entry.opcode next.opcode ≡ first
    → same_text next.opcode entry.opcode ≡ false
    → RisesByOpcode (next ∷ done) → RisesByOpcode (with_entry entry done)
    → RisesByOpcode (if first then entry ∷ next ∷ done else next ∷ with_entry entry done)
rises_if true entry next done before other rises later = ((before, below_all entry.opcode next.opcode done before rises.0), rises)
rises_if false entry next done before other rises later =
    (below_with next.opcode entry done (comes_before_or_after next.opcode entry.opcode other before) rises.0, later)

rises_with : (entry : Entry) (done entries : List Entry) → RisesByOpcode done → AreNew done (entry ∷ entries) → RisesByOpcode (with_entry entry done)
rises_with entry [] entries rises new = (tt, tt)
rises_with entry (next ∷ done) entries rises new =
    rises_if (comes_before entry.opcode next.opcode) entry next done refl new.0.0 rises (rises_with entry done entries rises.1 new.1)

pub inserted_rises : (done entries : List Entry) → RisesByOpcode done → AreNew done entries
    → AreDistinct entries → RisesByOpcode (inserted done entries)
inserted_rises done [] rises new distinct = rises
inserted_rises done (entry ∷ entries) rises new distinct =
    inserted_rises (with_entry entry done) entries (rises_with entry done entries rises new)
    (new_with entry done entries distinct.0 (new_later done entry entries new)) distinct.1

-- Kept entries stay kept.
kept_if : (first : Bool) (entry next : Entry) (done : List Entry) → is_own entry.opcode ≡ false
    → AreKept (next ∷ done) → AreKept (with_entry entry done)
    → AreKept (if first then entry ∷ next ∷ done else next ∷ with_entry entry done)
kept_if true entry next done here kept later = (here, kept)
kept_if false entry next done here kept later = (kept.0, later)

kept_with : (entry : Entry) (done : List Entry) → is_own entry.opcode ≡ false → AreKept done → AreKept (with_entry entry done)
kept_with entry [] here kept = (here, tt)
kept_with entry (next ∷ done) here kept = kept_if (comes_before entry.opcode next.opcode) entry next done here kept (kept_with entry done here kept.1)

inserted_kept : (done entries : List Entry) → AreKept done → AreKept entries → AreKept (inserted done entries)
inserted_kept done [] kept more = kept
inserted_kept done (entry ∷ entries) kept more = inserted_kept (with_entry entry done) entries (kept_with entry done more.0 kept) more.1

own_if : (own : Bool) (entry : Entry) (entries : List Entry) → is_own entry.opcode ≡ own → AreKept entries
    → AreKept (if own then entries else entry ∷ entries)
own_if true entry entries here more = more
own_if false entry entries here more = (here, more)

segments_kept : (segments : List (List ℕ)) → AreKept (kept segments)
segments_kept [] = tt
segments_kept (segment ∷ segments) = own_if (is_own (word_at segment)) (entry_in segment) (kept segments) refl (segments_kept segments)

-- What is made of segments with distinct opcodes rises by opcode, and has no entry that an answer writes itself.
pub rest_rises : (segments : List (List ℕ)) → are_distinct segments ≡ true → RisesByOpcode (rest_of segments)
unfolding rest_of
rest_rises segments distinct =
    rw (kept_shown segments) (inserted_rises [] (kept_entries (map entry_in segments)) tt tt
    (kept_distinct (map entry_in segments) (shown_distinct segments distinct)))

pub rest_kept : (segments : List (List ℕ)) → AreKept (rest_of segments)
unfolding rest_of
rest_kept segments = inserted_kept [] (kept segments) tt (segments_kept segments)
