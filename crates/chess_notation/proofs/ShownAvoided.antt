-- The words behind `am` say what its operands are, and so which moves are to be avoided.
use Rattle.std.proofs.Common.{◌≡◌, ◌≢◌, ℕ, suc, ◌-◌, List, [], ◌∷◌, ◌++◌, Bool, true, false, Option, Some, length, map}
use Rattle.std.proofs.Common.{take, refl, ap, sym, ◌∙◌, arith, subst, inl, inr, if◌then◌else◌, codes, ◌&&◌, ◌||◌}
use Rattle.std.specs.List.{list_all, slice_index}
use Rattle.std.specs.Option.{option_map_or}
use Rattle.std.proofs.lemmas.Bool.{and_parts}
use mathlib.Core.Bool.{not}
use Rattle.chess_board.specs.Positions.{Setup}
use Rattle.chess_board.specs.Moves.{Move}
use Rattle.chess_moves.specs.inside.Listing.{legal_moves}
use Rattle.chess_moves.specs.Laws.{LegalListed}
use Rattle.chess_notation.specs.Words.{front_word, word_at, behind, is_blank, words_in}
use Rattle.chess_notation.specs.Operations.{Operand, SpellsOperands, Operation}
use Rattle.chess_notation.specs.Operations.Operand.{Word, Text}
use Rattle.chess_notation.specs.Opcodes.{same_text}
use Rattle.chess_notation.specs.SanText.{bare_text}
use Rattle.chess_notation.specs.AvoidMoves.{is_suffix, without_suffix, names, is_name, named}
use Rattle.chess_notation.specs.EpdFaults.{differs_from, are_distinct, is_avoid_segment, are_names, has_names_if_avoid}
use Rattle.chess_notation.specs.Records.{AreOnce, am_of, AreToAvoid}
use Rattle.chess_notation.specs.inside.RecordReading.{avoid_text_in, avoid_in}
use Rattle.chess_notation.proofs.Members.{any_member, in_front, in_back, in_none, in_cases, in_same}
use Rattle.chess_notation.proofs.TextOrder.{same_text_is}
use Rattle.chess_notation.proofs.PlainBytes.{is_plain}
use Rattle.chess_notation.proofs.SanBytes.{IsPlainWord, bare_plain}
use Rattle.chess_notation.proofs.WordLists.{words_spaces, words_front, words_next, no_words}
use Rattle.chess_notation.proofs.ShownBounds.{operand_solid}
use Rattle.chess_notation.proofs.ShownOperations.{IsShown, AreShown, shown_opcode, shown_other_opcode, word_bytes_no_space, operands_apart}

-- A word that names a move begins with no quotation mark.
plain_head : (marked : Bool) (b : ℕ) (bs : List ℕ) → IsPlainWord (if marked then take (length (b ∷ bs) - 1) (b ∷ bs) else b ∷ bs) → is_plain b ≡ true
plain_head false b bs h = (and_parts (is_plain b) (list_all is_plain bs) h.1).0
plain_head true b [] h = absurd (h.0 refl)
plain_head true b (c ∷ cs) h =
    let few : length (b ∷ c ∷ cs) - 1 ≡ suc (length cs) = omega arith in
    let front : take (length (b ∷ c ∷ cs) - 1) (b ∷ c ∷ cs) ≡ b ∷ take (length cs) (c ∷ cs) = ap (λ n. take n (b ∷ c ∷ cs)) few in
    (and_parts (is_plain b) (list_all is_plain (take (length cs) (c ∷ cs))) (sym (ap (list_all is_plain) front) ∙ h.1)).0

name_head : LegalListed → (p : Setup) (b : ℕ) (bs : List ℕ) → is_name p (b ∷ bs) ≡ true → is_plain b ≡ true
unfolding is_name without_suffix
name_head listed p b bs h =
    let found = any_member (names p (b ∷ bs)) (legal_moves p) h in
    let plain = bare_plain p found.0 ((listed p found.0).0 found.1) in
    let word : IsPlainWord (without_suffix (b ∷ bs)) =
    subst IsPlainWord (sym (same_text_is (without_suffix (b ∷ bs)) (bare_text p found.0) found.2)) plain in
    plain_head (is_suffix (slice_index (b ∷ bs) (length (b ∷ bs) - 1))) b bs word

quoted_no_name : LegalListed → (p : Setup) (bs : List ℕ) → is_name p (34 ∷ bs) ≡ false
quoted_no_name listed p bs = (elim (is_name p (34 ∷ bs)) as (λ test. is_name p (34 ∷ bs) ≡ test → test ≡ false) [
  | true ↦ λ is. let plain : is_plain 34 ≡ true = name_head listed p 34 bs is in cc
  | false ↦ λ is. refl
]) refl

-- Where a quotation mark begins a text, its first word is no name.
mark_no_names : LegalListed → (p : Setup) (bs : List ℕ) → list_all (is_name p) (words_in (34 ∷ bs)) ≡ false
unfolding word_at
mark_no_names listed p bs =
    let none : is_name p (34 ∷ front_word bs) ≡ false = quoted_no_name listed p (front_word bs) in
    ap (list_all (is_name p)) (words_next (34 ∷ bs) refl) ∙ rw none refl

-- Plain operands are words.
pub word_operands : (words : List (List ℕ)) (text : List ℕ) → SpellsOperands text (map Word words) → words_in text ≡ words
word_operands [] text h = ap words_in h.1 ∙ no_words h.0
word_operands (word ∷ words) text h =
    ap words_in h.2 ∙ words_spaces (suc h.0) (word ++ h.1)
    ∙ words_front word h.1 (word_bytes_no_space word h.3.1) h.3.0 (operands_apart (map Word words) h.1 h.4)
    ∙ ap (λ ws. word ∷ ws) (word_operands words h.1 h.4)

-- Operands of which each word is a name are plain.
pub names_plain : LegalListed → (p : Setup) (operands : List Operand) (text : List ℕ) → SpellsOperands text operands
    → list_all (is_name p) (words_in text) ≡ true → operands ≡ map Word (words_in text)
names_plain listed p [] text h names = sym (ap (map Word) (ap words_in h.1 ∙ no_words h.0))
names_plain listed p (Word word ∷ operands) text h names =
    let split : words_in text ≡ word ∷ words_in h.1 =
    ap words_in h.2 ∙ words_spaces (suc h.0) (word ++ h.1)
    ∙ words_front word h.1 (word_bytes_no_space word h.3.1) h.3.0 (operands_apart operands h.1 h.4) in
    let rest = and_parts (is_name p word) (list_all (is_name p) (words_in h.1)) (sym (ap (list_all (is_name p)) split) ∙ names) in
    ap (λ os. Word word ∷ os) (names_plain listed p operands h.1 h.4 rest.1) ∙ sym (ap (map Word) split)
names_plain listed p (Text quoted ∷ operands) text h names =
    let there : words_in text ≡ words_in (34 ∷ ((quoted ++ 34 ∷ []) ++ h.1)) =
    ap words_in h.2 ∙ words_spaces (suc h.0) (34 ∷ ((quoted ++ 34 ∷ []) ++ h.1)) in
    let none : list_all (is_name p) (words_in text) ≡ false = ap (list_all (is_name p)) there ∙ mark_no_names listed p ((quoted ++ 34 ∷ []) ++ h.1) in
    cc

-- Whether the segment shows `am`.
avoid_opcode : (segment : List ℕ) (operation : Operation) → IsShown segment operation
    → is_avoid_segment segment ≡ true → operation.opcode ≡ codes "am"
avoid_opcode = shown_opcode (codes "am")

other_opcode : (segment : List ℕ) (operation : Operation) → IsShown segment operation
    → is_avoid_segment segment ≡ false → operation.opcode ≢ codes "am"
other_opcode = shown_other_opcode (codes "am") refl

-- The tests of a segment that shows it, taken apart.
pub record AreNames (p : Setup) (text : List ℕ) : Type 0 where
  pub solid : is_blank text ≡ false
  pub each : list_all (is_name p) (words_in text) ≡ true

pub names_there : (p : Setup) (text : List ℕ) → are_names p text ≡ true → AreNames p text
names_there p text h =
    let both = and_parts (not (is_blank text)) (list_all (is_name p) (words_in text)) h in
    record { solid = not_true (is_blank text) both.0; each = both.1 } where
      not_true : (b : Bool) → not b ≡ true → b ≡ false
      not_true true h = cc
      not_true false h = refl

words_some : (text : List ℕ) → is_blank text ≡ false → words_in text ≢ []
words_some text solid e = let next : words_in text ≡ word_at text ∷ words_in (behind text) = words_next text solid in cc

-- Reading: segments that pass the tests show operations that ask to avoid what the segments name.
no_more_am : (p : Setup) (operation : Operation) (operations : List Operation) (avoid : List Move) → operation.opcode ≢ codes "am"
    → AreToAvoid p operations avoid → AreToAvoid p (operation ∷ operations) avoid
no_more_am p operation operations avoid other (inl h) = inl (
  (λ o inside. (elim (in_cases operation operations o inside) [
    | inl e ↦ (λ am. other (sym (ap (λ x. x.opcode) e) ∙ am))
    | inr more ↦ h.0 o more
  ])),
  h.1,
)
no_more_am p operation operations avoid other (inr h) = inr (h.0, in_back operation operations (am_of h.0) h.1, h.2, h.3, h.4)

shown_am : LegalListed → (p : Setup) (segment : List ℕ) (operation : Operation) → IsShown segment operation
    → is_avoid_segment segment ≡ true → AreNames p (behind segment)
    → operation ≡ am_of (words_in (behind segment))
shown_am listed p segment operation shown avoid are =
    let opcode = avoid_opcode segment operation shown avoid in
    let operands = names_plain listed p operation.operands (behind segment) shown.operands are.each in
    λ i. record { opcode = opcode i; operands = operands i }

abbrev named_by : Setup → Option (List ℕ) → List Move
named_by p text = option_map_or (λ t. named p (words_in t)) text []

pub names_are_avoided : LegalListed → (p : Setup) (segments : List (List ℕ)) (operations : List Operation) → AreShown segments operations
    → list_all (has_names_if_avoid p) segments ≡ true → AreToAvoid p operations (avoid_in p segments)
unfolding avoid_in avoid_text_in
names_are_avoided listed p [] [] shown names = inl ((λ o inside. absurd (in_none o inside)), refl)
names_are_avoided listed p [] (operation ∷ operations) shown names = absurd shown
names_are_avoided listed p (segment ∷ segments) [] shown names = absurd shown
names_are_avoided listed p (segment ∷ segments) (operation ∷ operations) shown names =
    let both = and_parts (has_names_if_avoid p segment) (list_all (has_names_if_avoid p) segments) names in
    by_test (is_avoid_segment segment) refl both.0 (names_are_avoided listed p segments operations shown.1 both.1) where
      by_test : (avoid : Bool) → is_avoid_segment segment ≡ avoid → (not avoid || are_names p (behind segment)) ≡ true
          → AreToAvoid p operations (avoid_in p segments)
          → AreToAvoid p (operation ∷ operations) (named_by p (if avoid then Some (behind segment) else avoid_text_in segments))
      by_test true e names later =
          let are = names_there p (behind segment) names in
          let am = shown_am listed p segment operation shown.0 e are in
          let words = words_in (behind segment) in
          inr (
            words,
            in_same (operation ∷ operations) (am_of words) operation (sym am) (in_front operation operations),
            words_some (behind segment) are.solid,
            are.each,
            refl,
          )
      by_test false e names later = no_more_am p operation operations (avoid_in p segments) (other_opcode segment operation shown.0 e) later

-- The other way: what is asked to be avoided is what the segments name, and they pass the tests.
fewer_am : (p : Setup) (operation : Operation) (operations : List Operation) (avoid : List Move) → operation.opcode ≢ codes "am"
    → AreToAvoid p (operation ∷ operations) avoid → AreToAvoid p operations avoid
fewer_am p operation operations avoid other (inl h) = inl ((λ o inside. h.0 o (in_back operation operations o inside)), h.1)
fewer_am p operation operations avoid other (inr h) = elim (in_cases operation operations (am_of h.0) h.1) [
  | inl e ↦ absurd (other (sym (ap (λ x. x.opcode) e)))
  | inr more ↦ inr (h.0, more, h.2, h.3, h.4)
]

avoided_here : (p : Setup) (operation : Operation) (operations : List Operation) (avoid : List Move) → AreOnce (operation ∷ operations)
    → operation.opcode ≡ codes "am" → AreToAvoid p (operation ∷ operations) avoid
    → (words : List (List ℕ)) × (operation ≡ am_of words) × (words ≢ []) × (list_all (is_name p) words ≡ true) × (avoid ≡ named p words)
avoided_here p operation operations avoid once am (inl h) = absurd (h.0 operation (in_front operation operations) am)
avoided_here p operation operations avoid once am (inr h) = elim (in_cases operation operations (am_of h.0) h.1) [
  | inl e ↦ (h.0, sym e, h.2, h.3, h.4)
  | inr more ↦ absurd (once.0 (am_of h.0) more (sym am))
]

-- what the segments show of the moves to avoid
pub record AreAvoidedIn (p : Setup) (segments : List (List ℕ)) (avoid : List Move) : Type 0 where
  pub same : avoid ≡ avoid_in p segments
  pub names : list_all (has_names_if_avoid p) segments ≡ true

words_solid : (words : List (List ℕ)) (text : List ℕ) → words ≢ [] → SpellsOperands text (map Word words) → is_blank text ≡ false
words_solid [] text some h = absurd (some refl)
words_solid (word ∷ words) text some h = ap is_blank h.2 ∙ operand_solid (Word word) h.0 h.1 h.3

names_from : (p : Setup) (text : List ℕ) → is_blank text ≡ false → list_all (is_name p) (words_in text) ≡ true → are_names p text ≡ true
names_from p text solid each = rw (solid, each) refl

pub avoided_are_named : (p : Setup) (segments : List (List ℕ)) (operations : List Operation) (avoid : List Move)
    → AreShown segments operations → AreOnce operations
    → AreToAvoid p operations avoid → AreAvoidedIn p segments avoid
unfolding avoid_in avoid_text_in
avoided_are_named p [] [] avoid shown once (inl h) = record { same = h.1; names = refl }
avoided_are_named p [] [] avoid shown once (inr h) = absurd (in_none (am_of h.0) h.1)
avoided_are_named p [] (operation ∷ operations) avoid shown once h = absurd shown
avoided_are_named p (segment ∷ segments) [] avoid shown once h = absurd shown
avoided_are_named p (segment ∷ segments) (operation ∷ operations) avoid shown once h =
    by_test (is_avoid_segment segment) refl (avoided_are_named p segments operations [] shown.1 once.1)
    (avoided_are_named p segments operations avoid shown.1 once.1) where
      by_test : (test : Bool) → is_avoid_segment segment ≡ test → (AreToAvoid p operations [] → AreAvoidedIn p segments [])
          → (AreToAvoid p operations avoid → AreAvoidedIn p segments avoid) → AreAvoidedIn p (segment ∷ segments) avoid
      by_test true e none more =
          let am = avoid_opcode segment operation shown.0 e in
          let got = avoided_here p operation operations avoid once am h in
          let spelled : SpellsOperands (behind segment) (map Word got.0) =
          subst (λ o. SpellsOperands (behind segment) o.operands) got.1 shown.0.operands in
          let words : words_in (behind segment) ≡ got.0 = word_operands got.0 (behind segment) spelled in
          let here : are_names p (behind segment) ≡ true = names_from p (behind segment)
          (words_solid got.0 (behind segment) got.2 spelled) (ap (list_all (is_name p)) words ∙ got.3) in
          let later = none (inl ((λ o inside is. once.0 o inside (is ∙ sym am)), refl)) in
          record { same = rw e (got.4 ∙ ap (named p) (sym words)); names = rw (e, here) later.names }
      by_test false e none more =
          let later = more (fewer_am p operation operations avoid (other_opcode segment operation shown.0 e) h) in
          record { same = rw e later.same; names = rw e later.names }

-- Where no opcode stands twice, the first `am` settles the test.
no_am_later : (p : Setup) (segment : List ℕ) (segments : List (List ℕ)) → is_avoid_segment segment ≡ true
    → list_all (differs_from (word_at segment)) segments ≡ true
    → list_all (has_names_if_avoid p) segments ≡ true
no_am_later p segment [] avoid differ = refl
no_am_later p segment (next ∷ segments) avoid differ =
    let both = and_parts (differs_from (word_at segment) next) (list_all (differs_from (word_at segment)) segments) differ in
    let am : codes "am" ≡ word_at segment = same_text_is (codes "am") (word_at segment) avoid in
    let other : not (is_avoid_segment next) ≡ true = ap (λ opcode. not (same_text opcode (word_at next))) am ∙ both.0 in
    rw (other, no_am_later p segment segments avoid both.1) refl

with_true : (b : Bool) → (b && true) ≡ b
with_true true = refl
with_true false = refl

pub names_by_first : (p : Setup) (segments : List (List ℕ)) → are_distinct segments ≡ true
    → list_all (has_names_if_avoid p) segments ≡ option_map_or (are_names p) (avoid_text_in segments) true
unfolding avoid_text_in
names_by_first p [] distinct = refl
names_by_first p (segment ∷ segments) distinct =
    let both = and_parts (list_all (differs_from (word_at segment)) segments) (are_distinct segments) distinct in
    by_test (is_avoid_segment segment) refl both.0 (names_by_first p segments both.1) where
      by_test : (avoid : Bool) → is_avoid_segment segment ≡ avoid → list_all (differs_from (word_at segment)) segments ≡ true
          → list_all (has_names_if_avoid p) segments ≡ option_map_or (are_names p) (avoid_text_in segments) true
          → ((not avoid || are_names p (behind segment)) && list_all (has_names_if_avoid p) segments)
          ≡ option_map_or (are_names p) (if avoid then Some (behind segment) else avoid_text_in segments) true
      by_test true e differ later = let none = no_am_later p segment segments e differ in rw none (with_true (are_names p (behind segment)))
      by_test false e differ later = later
