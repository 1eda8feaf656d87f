-- Own entries of an answer among those of a record, where each own one comes before the others.
use Rattle.std.proofs.Common.{◌≡◌, ℕ, List, [], ◌∷◌, ◌++◌, Bool, true, false, refl, ap, sym, ◌∙◌, subst, suc}
use Rattle.std.proofs.Common.{◌+◌, ◌<◌, ◌≤◌, length, drop, get_or, add-one, append_assoc, if◌then◌else◌}
use Rattle.std.proofs.lemmas.List.{drop_all}
use Rattle.chess_notation.specs.Operations.{Entry}
use Rattle.chess_notation.specs.Opcodes.{comes_before, with_entry, IsBelow}
use Rattle.chess_notation.specs.inside.Merging.{with_entries}
use Rattle.chess_notation.specs.Answers.{entry_text, entries_text}
use Rattle.chess_notation.proofs.Drops.{drop-at}
use Rattle.chess_notation.proofs.TextOrder.{comes_before_trans}

-- The opcode comes before that of the first entry.
abbrev pub IsAhead : List ℕ → List Entry → Type 0
IsAhead opcode [] = Unit {0}
IsAhead opcode (entry ∷ entries) = comes_before opcode entry.opcode ≡ true

ahead_if : (first : Bool) (opcode : List ℕ) (own next : Entry) (entries : List Entry)
    → comes_before opcode own.opcode ≡ true → IsAhead opcode (next ∷ entries)
    → IsAhead opcode (if first then own ∷ next ∷ entries else next ∷ with_entry own entries)
ahead_if true opcode own next entries before ahead = before
ahead_if false opcode own next entries before ahead = ahead

ahead_one : (opcode : List ℕ) (own : Entry) (entries : List Entry) → comes_before opcode own.opcode ≡ true
    → IsAhead opcode entries → IsAhead opcode (with_entry own entries)
ahead_one opcode own [] before ahead = before
ahead_one opcode own (next ∷ entries) before ahead = ahead_if (comes_before own.opcode next.opcode) opcode own next entries before ahead

ahead_all : (opcode : List ℕ) (owns entries : List Entry) → IsBelow opcode owns → IsAhead opcode entries → IsAhead opcode (with_entries owns entries)
ahead_all opcode [] entries below ahead = ahead
ahead_all opcode (own ∷ owns) entries below ahead =
    ahead_one opcode own (with_entries owns entries) below.0 (ahead_all opcode owns entries below.1 ahead)

with_entry-ahead : (own : Entry) (entries : List Entry) → IsAhead own.opcode entries → with_entry own entries ≡ own ∷ entries
with_entry-ahead own [] ahead = refl
with_entry-ahead own (next ∷ entries) ahead = rw ahead refl

-- Where one text comes before another and not before a third, the other does not come before the third either.
behind_other : (opcode other next : List ℕ) → comes_before opcode other ≡ true → comes_before opcode next ≡ false → comes_before other next ≡ false
behind_other opcode other next before after = by_test (comes_before other next) refl where
  by_test : (test : Bool) → comes_before other next ≡ test → test ≡ false
  by_test true e = let more = comes_before_trans opcode other next before e in cc
  by_test false e = refl

with_entries-behind : (opcode : List ℕ) (owns : List Entry) (next : Entry) (entries : List Entry) → IsBelow opcode owns
    → comes_before opcode next.opcode ≡ false
    → with_entries owns (next ∷ entries) ≡ next ∷ with_entries owns entries
with_entries-behind opcode [] next entries below after = refl
with_entries-behind opcode (own ∷ owns) next entries below after =
    ap (with_entry own) (with_entries-behind opcode owns next entries below.1 after)
    ∙ rw (behind_other opcode own.opcode next.opcode below.0 after) refl

-- The own entries go on behind an entry that the first of them does not come before.
pub merged_on : (all text new opcode : List ℕ) (own : Entry) (owns entries : List Entry) (i : ℕ) (next : Entry)
    → i < length entries → next ≡ get_or entries i next
    → own.opcode ≡ opcode → IsBelow opcode owns → comes_before opcode next.opcode ≡ false → new ≡ text ++ entry_text next
    → all ≡ text ++ entries_text (with_entries (own ∷ owns) (drop i entries))
    → all ≡ new ++ entries_text (with_entries (own ∷ owns) (drop (i + 1) entries))
merged_on all text new opcode own owns entries i next here at same below after added so_far =
    let more = drop (suc i) entries in
    let behind : comes_before own.opcode next.opcode ≡ false = ap (λ o. comes_before o next.opcode) same ∙ after in
    let others = with_entries-behind opcode owns next more below after in
    let step : with_entries (own ∷ owns) (next ∷ more) ≡ next ∷ with_entries (own ∷ owns) more = ap (with_entry own) others ∙ rw behind refl in
    rw add-one
    (so_far ∙ ap (λ es. text ++ entries_text es) (ap (with_entries (own ∷ owns)) (drop-at entries i next here at) ∙ step)
    ∙ sym (append_assoc text (entry_text next) (entries_text (with_entries (own ∷ owns) more)))
    ∙ ap (λ t. t ++ entries_text (with_entries (own ∷ owns) more)) (sym added))

first_of_own : (all text opcode : List ℕ) (own : Entry) (owns left : List Entry) → own.opcode ≡ opcode → IsBelow opcode owns → IsAhead opcode left
    → all ≡ text ++ entries_text (with_entries (own ∷ owns) left) → all ≡ text ++ entries_text (own ∷ with_entries owns left)
first_of_own all text opcode own owns left same below ahead so_far =
    let there : IsAhead own.opcode (with_entries owns left) =
    subst (λ (o : List ℕ). IsAhead o (with_entries owns left)) (sym same) (ahead_all opcode owns left below ahead) in
    so_far ∙ ap (λ es. text ++ entries_text es) (with_entry-ahead own (with_entries owns left) there)

-- The first of them stands before an entry that it comes before.
pub merged_before : (all text opcode : List ℕ) (own : Entry) (owns entries left : List Entry) (i : ℕ) (next : Entry)
    → i < length entries → next ≡ get_or entries i next
    → own.opcode ≡ opcode → IsBelow opcode owns → comes_before opcode next.opcode ≡ true → left ≡ drop i entries
    → all ≡ text ++ entries_text (with_entries (own ∷ owns) (drop i entries)) → all ≡ text ++ entries_text (own ∷ with_entries owns left)
merged_before all text opcode own owns entries left i next here at same below before rest so_far =
    let ahead : IsAhead opcode (drop i entries) = subst (IsAhead opcode) (sym (drop-at entries i next here at)) before in
    rw rest (first_of_own all text opcode own owns (drop i entries) same below ahead so_far)

-- It stands last where no entries are left.
pub merged_last : (all text opcode : List ℕ) (own : Entry) (owns entries : List Entry) (i : ℕ) → length entries ≤ i
    → own.opcode ≡ opcode → IsBelow opcode owns
    → all ≡ text ++ entries_text (with_entries (own ∷ owns) (drop i entries)) → all ≡ text ++ entries_text (own ∷ with_entries owns [])
merged_last all text opcode own owns entries i end same below so_far =
    first_of_own all text opcode own owns [] same below tt
    (so_far ∙ ap (λ es. text ++ entries_text (with_entries (own ∷ owns) es)) (drop_all i entries end))

-- One own entry is printed.
pub own_printed : (all text new : List ℕ) (own : Entry) (behind : List Entry) → all ≡ text ++ entries_text (own ∷ behind)
    → new ≡ text ++ entry_text own → all ≡ new ++ entries_text behind
own_printed all text new own behind so_far added =
    so_far ∙ sym (append_assoc text (entry_text own) (entries_text behind)) ∙ ap (λ t. t ++ entries_text behind) (sym added)
