-- What is printed are records and refusals, one behind the other.
use Rattle.std.proofs.Common.{◌≡◌, ◌≢◌, ◌⊎◌, inl, inr, ℕ, ◌+◌, ◌<◌, length, Bool, true, false, ◌||◌, Option, None, Some}
use Rattle.std.proofs.Common.{List, [], ◌∷◌, ◌++◌, refl, sym, ap, ◌∙◌, subst, append_assoc, arith, length-append}
use Rattle.std.specs.Prelude.{Contains, IfNone, map, replicate}
use Rattle.std.proofs.KnownBytes.{Appends-trans}
use Rattle.std.specs.Io.KnownBytes.{Appends}
use Rattle.byte_streams.specs.Stops.{AppendsBy, AppendsPart}
use Rattle.byte_streams.specs.declared.stops.Stop.{Stop}
use Rattle.byte_streams.specs.declared.stops.Stop.TheVariants as stop
use Rattle.std.proofs.lemmas.List.Elements.{Contains-append_left, Contains-append_right, Contains-push}
use Rattle.chess_notation.specs.declared.epd_faults.EpdFault.{EpdFault}
use Rattle.chess_notation.specs.declared.epd_faults.EpdFault.TheVariants as kind
use Rattle.chess_notation.specs.EpdFaults.{HasNoFault, IsFaultOf}
use Rattle.chess_notation.specs.RecordLaws.{RecordsClear}
use Rattle.problem_import.specs.declared.line_kinds.LineKind.{LineKind}
use Rattle.problem_import.specs.declared.line_kinds.LineKind.TheVariants as kinds
use Rattle.move_words.specs.declared.languages.Letters.{Letters}
use Rattle.text_lines.specs.Lines.{lines_of, without_cr}
use Rattle.text_lines.specs.Replies.{IsReply, IsReplyFrom}
use Rattle.problem_import.specs.Imports.{AreImported, EndsWithLine, ImportsAreRecords, IsImport, IsImportReply}
use Rattle.problem_import.specs.Changes.{telling}
use Rattle.problem_import.specs.Imports.{ImportsKeepPositions, IsKept, IsMade, IsOfLine, IsPlaced, IsRecord, IsToldOther}
use Rattle.problem_import.specs.Imports.{KeepsProblem}
use Rattle.problem_import.specs.Imports.{none, one_if, plain, printed, read, refused, refused_line, skipped, told, unchanged, untold}
use Rattle.problem_import.specs.declared.changes.Change.{Change}
use Rattle.problem_import.specs.declared.changes.Change.TheVariants.{Pgn, Popeye}
use Rattle.problem_import.proofs.Positions.{no_empty_position}

pub imported_append : (P : List ℕ → Type 0) (a b : List ℕ) (x y : Bool) → AreImported P a x → AreImported P b y → AreImported P (a ++ b) (x || y)
imported_append P a b x y none more = more
imported_append P a b x y (printed line rest any is kind on) more =
    subst (λ t. AreImported P t (any || y)) (sym (append_assoc line (10 ∷ rest) b))
    (printed line (rest ++ b) (any || y) is kind (imported_append P rest b any y on more))
imported_append P a b x y (refused number fault rest any on) more =
    subst (λ t. AreImported P t true) (sym (append_assoc (refused_line number fault) rest b))
    (refused number fault (rest ++ b) (any || y) (imported_append P rest b any y on more))

-- Records of one kind are records of another.
pub imported_for : (P Q : List ℕ → Type 0) → ((line : List ℕ) → IsRecord line → P line → Q line) → (text : List ℕ) (any : Bool)
    → AreImported P text any → AreImported Q text any
imported_for P Q each text any none = none
imported_for P Q each text any (printed line rest any' is kind on) =
    printed line rest any' is (each line is kind) (imported_for P Q each rest any' on)
imported_for P Q each text any (refused number fault rest any' on) = refused number fault rest any' (imported_for P Q each rest any' on)

-- A line with a fault, which is not want of memory, is no record.
pub refused_line_fault : RecordsClear → (line : List ℕ) (fault : EpdFault) (X : Type 0) → fault ≢ kind.NoMemory
    → IsFaultOf line fault ⊎ ((fault ≡ kind.NoMemory) × X) → IsRecord line → ⊥
unfolding HasNoFault
refused_line_fault clear line fault X other (inl first) (r, reads) = clear line 3 r reads fault first.applies
refused_line_fault clear line fault X other (inr (is, x)) (r, reads) = absurd (other is)

ended_filled : (line text : List ℕ) → EndsWithLine line text → 0 < length text
ended_filled line text (before, is) =
    let some : 0 < length (before ++ line ++ 10 ∷ []) = omega (arith, length-append (before ++ line) (10 ∷ [])) in
    subst (λ t. 0 < length t) (sym is) some

pub filled_behind : (old line new : List ℕ) → new ≡ old ++ line ++ 10 ∷ [] → 0 < length new
filled_behind old line new is = ended_filled line new (old, is)

-- Something is printed of a record, by what the line is.
pub record_kept : (kind : LineKind) (line before text : List ℕ) → (kind ≡ kinds.Other → ¬ (IsRecord line))
    → (kind ≡ kinds.Mendable → 0 < length before) → (0 < length before → 0 < length text)
    → (kind ≡ kinds.Clean → EndsWithLine line text) → IsRecord line → 0 < length text
record_kept kinds.Clean line before text other found filled ends is = ended_filled line text (ends refl)
record_kept kinds.Mendable line before text other found filled ends is = filled (found refl)
record_kept kinds.Other line before text other found filled ends is = absurd (other refl is)

-- ---- replies to lines, and an input's end

pub some_if : (any : Bool) → one_if any ≡ 0 → any ≡ false
some_if true is = absurd (omega (arith, is))
some_if false is = refl

pub none_of : (x y : Bool) → x ≡ false → y ≡ false → (x || y) ≡ false
none_of x y one other = rw (one, other) refl

no_word : (word : List ℕ) (n : ℕ) (rest : List ℕ) → [] ≡ replicate n 32 ++ (word ++ rest) → word ≢ [] → ⊥
no_word [] n rest is some = some refl
no_word (b ∷ bs) n rest is some =
    let long : 0 ≡ length (replicate n 32 ++ ((b ∷ bs) ++ rest)) = ap length is in
    omega (arith, long, length-append (replicate n 32) ((b ∷ bs) ++ rest), length-append (b ∷ bs) rest)

pub no_empty_record : IsRecord [] → ⊥
no_empty_record (r, reads) =
    let (n, rest, is, word, apart, more) = reads.words in no_word reads.fields.placement n rest is word.0

pub not_both : (x : Bool) → x ≡ false → x ≡ true → ⊥
not_both x off on = let no : false ≡ true = sym off ∙ on in cc

pub either : {A B C : Type 0} → (A → B) → A ⊎ C → B ⊎ C
either f (inl a) = inl (f a)
either f (inr c) = inr c

-- ---- laws of what is printed, by what each record is among the lines

abbrev Kind : Type 1
Kind = List (List ℕ) → List ℕ → Type 0

-- It is so of what is made of a line among others.
abbrev IsOfLines : Bool → Option ℕ → Kind → Type 0
IsOfLines keep given K = (lines : List (List ℕ)) (line r : List ℕ) → IsRecord r → (r ≡ line → Contains lines r) → Contains lines line
    → IsMade keep given line r → K lines r

abbrev Widens : Kind → Type 0
Widens K = (line : List ℕ) (lines : List (List ℕ)) (r : List ℕ) → K lines r → K (line ∷ lines) r

-- It is so of what is made at the end.
abbrev IsOfEnd : Bool → Option ℕ → Kind → Type 0
IsOfEnd keep given K = (lines : List (List ℕ)) (r : List ℕ) → IsRecord r → IsMade keep given [] r → K lines r

abbrev Imported : Kind → List (List ℕ) → List ℕ → ℕ → Type 0
Imported K lines text count = (any : Bool) × AreImported (K lines) text any × (count ≡ 0 → any ≡ false)

among_first : (line : List ℕ) (lines : List (List ℕ)) → Contains (line ∷ lines) line
among_first line lines = Contains-append_left (line ∷ []) lines line (Contains-push [] line)

reply_imported : (moves : Letters) (keep : Bool) (given : Option ℕ) (K : Kind) → IsOfLines keep given K
    → (number : ℕ) (line : List ℕ) (lines : List (List ℕ)) (text : List ℕ) (count : ℕ)
    → IsImportReply moves keep given number line text count → Imported K (line ∷ lines) text count
reply_imported moves keep given K each number line lines text count (skipped blank) = (false, none, λ is. refl)
reply_imported moves keep given K each number line lines text count (read text' any filled on clean kept) = (
  any,
  imported_for (IsMade keep given line) (K (line ∷ lines))
      (λ r one. each (line ∷ lines) line r one (λ is. rw is (among_first line lines)) (among_first line lines)) text' any on,
  some_if any,
)

replies_imported : (moves : Letters) (keep : Bool) (given : Option ℕ) (K : Kind) → IsOfLines keep given K → Widens K
    → (number : ℕ) (lines : List (List ℕ)) (text : List ℕ) (count : ℕ)
    → IsReplyFrom (IsImportReply moves keep given) number lines text count → Imported K (map without_cr lines) text count
replies_imported moves keep given K each wider number [] text count (is, nobody) = rw is (false, none, λ _. refl)
replies_imported moves keep given K each wider number (line ∷ lines) text count (here, few, more, others, one, on, is, all) =
    let behind : List (List ℕ) = map without_cr lines in
    let (x, first, clear) = reply_imported moves keep given K each number (without_cr line) behind here few one in
    let (y, rest, clear') = replies_imported moves keep given K each wider (number + 1) lines more others on in
    let widened = imported_for (K behind) (K (without_cr line ∷ behind)) (λ r _ so. wider (without_cr line) behind r so) more y rest in
    rw is (
      x || y,
      imported_append (K (without_cr line ∷ behind)) here more x y first widened,
      λ zero. none_of x y (clear (omega (arith, zero, all))) (clear' (omega (arith, zero, all))),
    )

all_imported : (moves : Letters) (keep : Bool) (given : Option ℕ) (K : Kind) → IsOfLines keep given K → Widens K → IsOfEnd keep given K
    → (input text : List ℕ) (count : ℕ) → IsImport moves keep given input text count → Imported K (map without_cr (lines_of input)) text count
unfolding IsImport IsReply
all_imported moves keep given K each wider at_end input text count (replies, refusals, last, any, are, ends, is, all) =
    let lines : List (List ℕ) = map without_cr (lines_of input) in
    let (x, first, clear) = replies_imported moves keep given K each wider 1 (lines_of input) replies refusals are in
    let end = imported_for (IsMade keep given []) (K lines) (at_end lines) last any ends in
    rw is (
      x || any,
      imported_append (K lines) replies last x any first end,
      λ zero. none_of x any (clear (omega (arith, zero, all))) (some_if any (omega (arith, zero, all))),
    )

-- ---- each is a line as it stands, or is told

pub made_kept : (keep : Bool) (given : Option ℕ) (lines : List (List ℕ)) (line r : List ℕ) → (r ≡ line → Contains lines r)
    → IsMade keep given line r → IsKept keep lines r
made_kept keep given lines line r here unchanged = λ on. inl (here refl)
made_kept keep given lines line r here (plain made has off own) = λ on. absurd (not_both keep off on)
made_kept keep given lines line r here (told made has on one changed own) = λ _. inr (made, has, changed.0, inl refl)
made_kept keep given lines line r here (untold made has on changed own unread) = λ _. inr (made, has, changed.0, inr unread)

pub imports_are_records : ImportsAreRecords
imports_are_records moves keep given input text count is =
    all_imported moves keep given (IsKept keep) (λ lines line r one here among made. made_kept keep given lines line r here made)
    (λ line lines r kept on. either (Contains-append_right (line ∷ []) lines r) (kept on))
    (λ lines r one made. made_kept keep given lines [] r (λ empty. absurd (no_empty_record (subst IsRecord empty one))) made)
    input text count is

-- ---- each is the problem of a line, or is told to be of a game or for Popeye

abbrev IsAt : Option ℕ → List (List ℕ) → List ℕ → Type 0
IsAt given lines r = Contains lines r ⊎ (((own : List ℕ) × Contains lines own × IsOfLine given own r) ⊎ IsToldOther r)

own_or_told : (b : Bool) (A B : Type 0) → (b ≡ true → B) → (b ≡ false → A) → A ⊎ B
own_or_told true A B other own = inr (other refl)
own_or_told false A B other own = inl (own refl)

placed : (given : Option ℕ) (lines : List (List ℕ)) (line r : List ℕ) (has : Change → Bool) → Contains lines line
    → ((has Pgn || has Popeye) ≡ true → IsToldOther r) → KeepsProblem given line r has → IsAt given lines r
placed given lines line r has among other own =
    inr (own_or_told (has Pgn || has Popeye) ((own' : List ℕ) × Contains lines own' × IsOfLine given own' r) (IsToldOther r) other
    (λ off. (line, among, own off)))

made_placed : (keep : Bool) (given : Option ℕ) (lines : List (List ℕ)) (line r : List ℕ) → (r ≡ line → Contains lines r)
    → Contains lines line → IsMade keep given line r
    → IsPlaced keep given lines r
made_placed keep given lines line r here among unchanged = λ on. inl (here refl)
made_placed keep given lines line r here among (plain made has off own) = λ on. absurd (not_both keep off on)
made_placed keep given lines line r here among (told made has on one changed own) = λ _.
    placed given lines line (made ++ telling has) has among (λ is. (made, has, is, inl refl)) own
made_placed keep given lines line r here among (untold made has on changed own unread) = λ _.
    placed given lines line made has among (λ is. (made, has, is, inr unread)) own

wider_at : (given : Option ℕ) (line : List ℕ) (lines : List (List ℕ)) (r : List ℕ) → IsAt given lines r → IsAt given (line ∷ lines) r
wider_at given line lines r (inl is) = inl (Contains-append_right (line ∷ []) lines r is)
wider_at given line lines r (inr (inl (own, among, is))) = inr (inl (own, Contains-append_right (line ∷ []) lines own among, is))
wider_at given line lines r (inr (inr other)) = inr (inr other)

-- What is made at the end is told.
placed_last : (given : Option ℕ) (lines : List (List ℕ)) (r : List ℕ) (has : Change → Bool) → IsRecord r
    → ((has Pgn || has Popeye) ≡ true → IsToldOther r) → KeepsProblem given [] r has → IsAt given lines r
placed_last given lines r has one other own =
    inr (own_or_told (has Pgn || has Popeye) ((own' : List ℕ) × Contains lines own' × IsOfLine given own' r) (IsToldOther r) other
    (λ off. absurd (no_empty_position r one (own off).0)))

end_placed : (keep : Bool) (given : Option ℕ) (lines : List (List ℕ)) (r : List ℕ) → IsRecord r → IsMade keep given [] r
    → IsPlaced keep given lines r
end_placed keep given lines r one unchanged = λ _. absurd (no_empty_record one)
end_placed keep given lines r one (plain made has off own) = λ on. absurd (not_both keep off on)
end_placed keep given lines r one (told made has on one' changed own) = λ _.
    placed_last given lines (made ++ telling has) has one (λ is. (made, has, is, inl refl)) own
end_placed keep given lines r one (untold made has on changed own unread) = λ _.
    placed_last given lines made has one (λ is. (made, has, is, inr unread)) own

pub imports_keep_positions : ImportsKeepPositions
imports_keep_positions moves keep given input text count is =
    let all = all_imported moves keep given (IsPlaced keep given) (λ lines line r one here among made. made_placed keep given lines line r here
    among made)
    (λ line lines r so on. wider_at given line lines r (so on)) (end_placed keep given) input text count is in
    (all.0, all.1)

pub some_text : (text : List ℕ) → 0 < length text → text ≢ []
some_text text some = λ is. let none : 0 < 0 = subst (λ t. 0 < length t) is some in omega (arith, none)

pub where_none : {A : Type 0} (X : Type 0) (found : Option A) → ((a : A) → found ≢ Some a) → IfNone found X → X
where_none X None other then = then
where_none X (Some a) other then = absurd (other a refl)

-- ---- where it ends or stops

part_more : (a b c : Option (List ℕ)) (text here : List ℕ) → Appends a b text → AppendsPart b c here → AppendsPart a c (text ++ here)
part_more a b c text here before (part, rest, is, on) =
    (text ++ part, rest, ap (λ t. text ++ t) is ∙ sym (append_assoc text part rest), Appends-trans a b c text part before on)

pub appends_more : (s : Stop) (a b c : Option (List ℕ)) (text here : List ℕ) → Appends a b text → AppendsBy s b c here → AppendsBy s a c (text ++ here)
appends_more stop.NoMemory a b c text here before on = Appends-trans a b c text here before on
appends_more stop.Unreadable a b c text here before on = Appends-trans a b c text here before on
appends_more stop.Unwritable a b c text here before on = part_more a b c text here before on
appends_more stop.NoReader a b c text here before on = part_more a b c text here before on
