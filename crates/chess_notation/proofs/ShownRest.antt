-- Segments with distinct opcodes show operations with distinct ones, and the record keeps what they show.
use Rattle.std.proofs.Common.{◌≡◌, ◌≢◌, ℕ, List, [], ◌∷◌, true, false, refl, ap, sym, ◌∙◌, subst, map, inl, inr}
use Rattle.std.specs.Prelude.{Contains}
use Rattle.std.specs.List.{list_all}
use Rattle.chess_notation.specs.Words.{word_at}
use Rattle.chess_notation.specs.Operations.{Entry, Operation, entry_of}
use Rattle.chess_notation.specs.Opcodes.{same_text, is_own}
use Rattle.chess_notation.specs.RecordFields.{entry_in}
use Rattle.chess_notation.specs.EpdFaults.{differs_from, are_distinct}
use Rattle.chess_notation.specs.inside.RecordReading.{inserted, rest_of}
use Rattle.chess_notation.specs.Records.{AreOnce, IsKeptOf, IsRestOf}
use Rattle.chess_notation.proofs.Members.{in_front, in_back, in_none, in_cases, in_map, in_map_from}
use Rattle.chess_notation.proofs.TextOrder.{same_text_self, same_text_other}
use Rattle.chess_notation.proofs.EntryOrder.{IsOther, AreDistinct, kept_entries, kept_shown, shown_distinct, rest_rises}
use Rattle.chess_notation.proofs.EntryMembers.{inserted_from, inserted_to, kept_from, kept_to, rising_same}
use Rattle.chess_notation.proofs.ShownOperations.{AreShown, shown_entries}

-- Each opcode stands once.
opcodes_apart : (opcode : List ℕ) (operations : List Operation) → IsOther opcode (map entry_of operations) → (other : Operation)
    → Contains operations other → other.opcode ≢ opcode
opcodes_apart opcode [] others other h = absurd (in_none other h)
opcodes_apart opcode (operation ∷ operations) others other h = elim (in_cases operation operations other h) [
  | inl e ↦ (λ same. (
      let never : same_text opcode opcode ≡ false = ap (same_text opcode) (sym same ∙ ap (λ o. o.opcode) e) ∙ others.0 in
      let always : same_text opcode opcode ≡ true = same_text_self opcode in
      cc))
  | inr more ↦ opcodes_apart opcode operations others.1 other more
]

once_from : (operations : List Operation) → AreDistinct (map entry_of operations) → AreOnce operations
once_from [] h = tt
once_from (operation ∷ operations) h = (opcodes_apart operation.opcode operations h.0, once_from operations h.1)

others_from : (opcode : List ℕ) (operations : List Operation) → ((other : Operation) → Contains operations other → other.opcode ≢ opcode)
    → IsOther opcode (map entry_of operations)
others_from opcode [] h = tt
others_from opcode (operation ∷ operations) h = (
  same_text_other opcode operation.opcode (λ e. h operation (in_front operation operations) (sym e)),
  others_from opcode operations (λ other more. h other (in_back operation operations other more)),
)

distinct_from : (operations : List Operation) → AreOnce operations → AreDistinct (map entry_of operations)
distinct_from [] once = tt
distinct_from (operation ∷ operations) once = (others_from operation.opcode operations once.0, distinct_from operations once.1)

differ_from : (opcode : List ℕ) (segments : List (List ℕ)) → IsOther opcode (map entry_in segments) → list_all (differs_from opcode) segments ≡ true
differ_from opcode [] h = refl
differ_from opcode (segment ∷ segments) h = rw h.0 (differ_from opcode segments h.1)

segments_distinct : (segments : List (List ℕ)) → AreDistinct (map entry_in segments) → are_distinct segments ≡ true
segments_distinct [] h = refl
segments_distinct (segment ∷ segments) h = let here : list_all (differs_from (word_at segment)) segments ≡ true =
    differ_from (word_at segment) segments h.0 in rw here (segments_distinct segments h.1)

pub distinct_once : (segments : List (List ℕ)) (operations : List Operation) → AreShown segments operations
    → are_distinct segments ≡ true → AreOnce operations
distinct_once segments operations shown h =
    once_from operations (subst AreDistinct (shown_entries segments operations shown) (shown_distinct segments h))

pub once_distinct : (segments : List (List ℕ)) (operations : List Operation) → AreShown segments operations
    → AreOnce operations → are_distinct segments ≡ true
once_distinct segments operations shown once = segments_distinct segments
    (subst AreDistinct (sym (shown_entries segments operations shown)) (distinct_from operations once))

-- The rest has exactly the kept operations' entries.
rest_has : (operations : List Operation) (entry : Entry)
    → Contains (inserted [] (kept_entries (map entry_of operations))) entry → IsKeptOf operations entry
rest_has operations entry h = elim (inserted_from [] (kept_entries (map entry_of operations)) entry h) [
  | inl none ↦ absurd (in_none entry none)
  | inr more ↦
      let kept = kept_from (map entry_of operations) entry more in
      let got = in_map_from entry_of operations entry kept.0 in
      (got.0, got.1, sym (ap (λ e. is_own e.opcode) got.2) ∙ kept.1, got.2)
]

has_rest : (operations : List Operation) (entry : Entry) → IsKeptOf operations entry
    → Contains (inserted [] (kept_entries (map entry_of operations))) entry
has_rest operations entry h =
    let inside : Contains (map entry_of operations) entry =
    subst (Contains (map entry_of operations)) (sym h.3) (in_map entry_of operations h.0 h.1) in
    inserted_to [] (kept_entries (map entry_of operations)) entry
    (inr (kept_to (map entry_of operations) entry inside (ap (λ e. is_own e.opcode) h.3 ∙ h.2)))

rest_shown : (segments : List (List ℕ)) (operations : List Operation) → AreShown segments operations
    → rest_of segments ≡ inserted [] (kept_entries (map entry_of operations))
unfolding rest_of
rest_shown segments operations shown = ap (inserted []) (kept_shown segments ∙ ap kept_entries (shown_entries segments operations shown))

pub rest_is_kept : (segments : List (List ℕ)) (operations : List Operation) → AreShown segments operations
    → are_distinct segments ≡ true → IsRestOf operations (rest_of segments)
rest_is_kept segments operations shown distinct =
    let same = rest_shown segments operations shown in (
      rest_rises segments distinct,
      λ entry. (
        (λ h. rest_has operations entry (subst (λ es. Contains es entry) same h)),
        (λ h. subst (λ es. Contains es entry) (sym same) (has_rest operations entry h)),
      ),
    )

-- It is the only such list.
pub rest_once : (operations : List Operation) (rest other : List Entry) → IsRestOf operations rest → IsRestOf operations other → rest ≡ other
rest_once operations rest other h k = rising_same rest other h.0 k.0 (λ entry inside. (k.1 entry).1 ((h.1 entry).0 inside))
    (λ entry inside. (h.1 entry).1 ((k.1 entry).0 inside))
