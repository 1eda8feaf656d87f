-- One segment more: what building a record needs of it.
use Rattle.std.proofs.Common.{◌≡◌, ◌≢◌, ℕ, List, [], ◌∷◌, ◌++◌, Bool, true, false, refl, ap, sym, ◌∙◌, replicate, subst, if◌then◌else◌}
use Rattle.std.proofs.lemmas.Bool.{and_parts}
use Rattle.std.specs.List.{list_all}
use Rattle.chess_notation.specs.Words.{word_at, behind}
use Rattle.chess_notation.specs.Segments.{with_segment, segments_of}
use Rattle.chess_notation.specs.Operations.{Entry}
use Rattle.chess_notation.specs.Opcodes.{is_own, comes_before, with_entry}
use Rattle.chess_notation.specs.RecordFields.{entry_in}
use Rattle.chess_notation.specs.inside.RecordReading.{inserted, kept}
use Rattle.chess_notation.proofs.WordSplits.{words_split, both_parts}

-- What holds of all bytes of a text holds of those of its first word, and of those of its first segment and behind it.
pub all_in_word : (p : ℕ → Bool) (text : List ℕ) → list_all p text ≡ true → list_all p (word_at text) ≡ true
all_in_word p text h =
    let split = words_split text in
    (both_parts p (word_at text) (behind text)
    (both_parts p (replicate split.0 32) (word_at text ++ behind text) (sym (ap (list_all p) split.1) ∙ h)).1).0

pub all_in_segment : (p : ℕ → Bool) (text segment back : List ℕ) → text ≡ segment ++ 59 ∷ back → list_all p text ≡ true
    → (list_all p segment ≡ true) × (list_all p back ≡ true)
all_in_segment p text segment back e h =
    let parts = both_parts p segment (59 ∷ back) (sym (ap (list_all p) e) ∙ h) in
    (parts.0, (and_parts (p 59) (list_all p back) parts.1).1)

kept_at : (own : Bool) (entries : List Entry) (segment : List ℕ) (segments : List (List ℕ)) → is_own (word_at segment) ≡ own
    → inserted entries (kept (segment ∷ segments)) ≡ inserted (if own then entries else with_entry (entry_in segment) entries) (kept segments)
kept_at true entries segment segments e = rw e refl
kept_at false entries segment segments e = rw e refl

pub kept_more : (entries next : List Entry) (text segment back : List ℕ) → segments_of text ≡ with_segment segment (segments_of back)
    → next ≡ (if is_own (word_at segment) then entries else with_entry (entry_in segment) entries)
    → inserted next (kept (segments_of back).ended) ≡ inserted entries (kept (segments_of text).ended)
kept_more entries next text segment back cut is =
    ap (λ t. inserted t (kept (segments_of back).ended)) is
    ∙ sym (kept_at (is_own (word_at segment)) entries segment (segments_of back).ended refl)
    ∙ sym (ap (λ c. inserted entries (kept c.ended)) cut)

pub all_behind_segment : (test : List ℕ → Bool) (text segment back : List ℕ) → segments_of text ≡ with_segment segment
    (segments_of back) → list_all test (segments_of text).ended ≡ true → list_all test (segments_of back).ended ≡ true
all_behind_segment test text segment back cut h =
    (and_parts (test segment) (list_all test (segments_of back).ended) (sym (ap (λ c. list_all test c.ended) cut) ∙ h)).1

no_cons : {A : Type 0} (x : A) (xs : List A) → x ∷ xs ≡ [] → ⊥
no_cons x xs e = cc

-- A list in which an entry was put isn't empty, and stays so.
with_some : (entry : Entry) (entries : List Entry) → with_entry entry entries ≢ []
with_some entry [] = λ e. no_cons _ _ e
with_some entry (next ∷ entries) = (elim (comes_before entry.opcode next.opcode) as (λ b.
    (if b then entry ∷ next ∷ entries else next ∷ with_entry entry entries) ≢ []) [
      | true ↦ λ e. no_cons _ _ e
      | false ↦ λ e. no_cons _ _ e
    ])

inserted_some : (done entries : List Entry) → done ≢ [] → inserted done entries ≢ []
inserted_some done [] some = some
inserted_some done (entry ∷ entries) some = inserted_some (with_entry entry done) entries (with_some entry done)

-- Where the next segment is kept, so is something in the end.
pub some_kept : (entries : List Entry) (text segment back : List ℕ)
    → segments_of text ≡ with_segment segment (segments_of back) → is_own (word_at segment) ≡ false
    → inserted entries (kept (segments_of text).ended) ≢ []
some_kept entries text segment back cut other =
    subst (λ es. es ≢ []) (kept_more entries (with_entry (entry_in segment) entries) text segment back cut (rw other refl))
    (inserted_some (with_entry (entry_in segment) entries) (kept (segments_of back).ended) (with_some (entry_in segment) entries))
