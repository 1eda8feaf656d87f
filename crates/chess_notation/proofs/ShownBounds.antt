-- The words behind `dm` say what its operands are, and so which bound is asked for.
use Rattle.std.proofs.Common.{◌≡◌, ◌≢◌, ℕ, zero, suc, ◌≤◌, ◌==◌, nat_le, nat_lt, List, [], ◌∷◌, ◌++◌, Bool, true}
use Rattle.std.proofs.Common.{false, refl, ap, sym, ◌∙◌, arith, replicate, subst, inl, inr, if◌then◌else◌, codes}
use Rattle.std.specs.List.{list_all}
use Rattle.std.proofs.lemmas.Bool.{and_parts}
use Rattle.std.proofs.lemmas.Bool.Decides.{nat_tests}
use mathlib.Core.Bool.{not}
use Rattle.chess_board.specs.Fields.{digits_value}
use Rattle.chess_notation.specs.Words.{front_word, word_at, behind, is_empty_text, is_blank}
use Rattle.chess_notation.specs.Operations.{is_digit, Operand, operand_text, IsOperand, spaces, SpellsOperands, Operation}
use Rattle.chess_notation.specs.Operations.Operand.{Word, Text}
use Rattle.chess_notation.specs.RecordFields.{is_number}
use Rattle.chess_notation.specs.EpdFaults.{is_bound_segment, has_number, has_number_if_bound, is_small_if_bound}
use Rattle.chess_notation.specs.Records.{AreOnce, dm_of, IsBoundOf}
use Rattle.chess_notation.specs.inside.RecordReading.{bound_said}
use Rattle.chess_notation.proofs.Members.{in_front, in_back, in_none, in_cases, in_same}
use Rattle.chess_notation.proofs.WordSplits.{not_byte, spaces_over, spaces_blank, word_again}
use Rattle.chess_notation.proofs.FaultFree.{IsBoundNumber, bound_number}
use Rattle.chess_notation.proofs.ShownOperations.{IsShown, AreShown, shown_opcode, shown_other_opcode, word_bytes_no_space, operands_apart}

-- One plain operand is one word and nothing else.
one_word : (rest word : List ℕ) → SpellsOperands rest (Word word ∷ []) → (word_at rest ≡ word) × (is_blank (behind rest) ≡ true)
one_word rest word h =
    let next = word_again (suc h.0) rest word h.1 h.2 (word_bytes_no_space word h.3.1) h.3.0 (operands_apart [] h.1 h.4) in
    (next.word_is, ap is_blank (next.rest_is ∙ h.4.1) ∙ spaces_blank h.4.0)

pub operand_solid : (operand : Operand) (more : ℕ) (rest : List ℕ) → IsOperand operand
    → is_blank (spaces more ++ (operand_text operand ++ rest)) ≡ false
operand_solid (Word []) more rest is = absurd (is.0 refl)
operand_solid (Word (b ∷ bs)) more rest is =
    let no_space : (b == 32) ≡ false = not_byte b 32 is.1.0 in
    ap is_empty_text (spaces_over (suc more) ((b ∷ bs) ++ rest)) ∙ rw no_space refl
operand_solid (Text text) more rest is = ap is_empty_text (spaces_over (suc more) ((34 ∷ (text ++ 34 ∷ [])) ++ rest))

blank_none : (operands : List Operand) (text : List ℕ) → SpellsOperands text operands → is_blank text ≡ true → operands ≡ []
blank_none [] text h blank = refl
blank_none (operand ∷ operands) text h blank = let solid : is_blank text ≡ false = ap is_blank h.2 ∙ operand_solid operand h.0 h.1 h.3 in cc

spaces_no_word : (n : ℕ) → word_at (replicate n 32) ≡ []
unfolding word_at
spaces_no_word zero = refl
spaces_no_word (suc n) = spaces_no_word n

mark_no_number : (more : ℕ) (rest : List ℕ) → is_number (word_at (spaces more ++ (34 ∷ rest))) ≡ false
unfolding word_at
mark_no_number more rest = ap (λ t. is_number (front_word t)) (spaces_over (suc more) (34 ∷ rest))

-- One number and nothing else is one plain operand.
one_operand : (operands : List Operand) (rest : List ℕ) → SpellsOperands rest operands → is_number (word_at rest) ≡ true
    → is_blank (behind rest) ≡ true → operands ≡ Word (word_at rest) ∷ []
one_operand [] rest h number blank = let none : is_number (word_at rest) ≡ false =
    ap (λ t. is_number (word_at t)) h.1 ∙ ap is_number (spaces_no_word h.0) in cc
one_operand (Word word ∷ operands) rest h number blank =
    let next = word_again (suc h.0) rest word h.1 h.2 (word_bytes_no_space word h.3.1) h.3.0 (operands_apart operands h.1 h.4) in
    let none : operands ≡ [] = blank_none operands h.1 h.4 (sym (ap is_blank next.rest_is) ∙ blank) in
    ap (λ os. Word word ∷ os) none ∙ ap (λ w. Word w ∷ []) (sym next.word_is)
one_operand (Text text ∷ operands) rest h number blank = let none : is_number (word_at rest) ≡ false =
    ap (λ t. is_number (word_at t)) h.2 ∙ mark_no_number h.0 ((text ++ 34 ∷ []) ++ h.1) in cc

-- Whether the segment shows `dm`.
bound_opcode : (segment : List ℕ) (operation : Operation) → IsShown segment operation
    → is_bound_segment segment ≡ true → operation.opcode ≡ codes "dm"
bound_opcode = shown_opcode (codes "dm")

other_opcode : (segment : List ℕ) (operation : Operation) → IsShown segment operation
    → is_bound_segment segment ≡ false → operation.opcode ≢ codes "dm"
other_opcode = shown_other_opcode (codes "dm") refl

shown_dm : (segment : List ℕ) (operation : Operation) → IsShown segment operation → is_bound_segment segment ≡ true → IsBoundNumber segment
    → operation ≡ dm_of (word_at (behind segment))
shown_dm segment operation shown bound number =
    let opcode = bound_opcode segment operation shown bound in
    let operands = one_operand operation.operands (behind segment) shown.operands number.digits number.alone in
    λ i. record { opcode = opcode i; operands = operands i }

-- Reading: segments that pass the tests show operations whose bound is that of the segments.
no_more_dm : (operation : Operation) (operations : List Operation) (default bound : ℕ) → operation.opcode ≢ codes "dm"
    → IsBoundOf operations default bound → IsBoundOf (operation ∷ operations) default bound
no_more_dm operation operations default bound other (inl h) = inl (
  (λ o inside. (elim (in_cases operation operations o inside) [
    | inl e ↦ (λ dm. other (sym (ap (λ x. x.opcode) e) ∙ dm))
    | inr more ↦ h.0 o more
  ])),
  h.1,
)
no_more_dm operation operations default bound other (inr h) = inr (h.0, in_back operation operations (dm_of h.0) h.1, h.2, h.3, h.4, h.5)

pub bound_is_asked : (segments : List (List ℕ)) (operations : List Operation) (default : ℕ) → AreShown segments operations
    → list_all has_number_if_bound segments ≡ true → list_all is_small_if_bound segments ≡ true
    → IsBoundOf operations default (bound_said segments default)
unfolding bound_said
bound_is_asked [] [] default shown numbers small = inl ((λ o inside. absurd (in_none o inside)), refl)
bound_is_asked [] (operation ∷ operations) default shown numbers small = absurd shown
bound_is_asked (segment ∷ segments) [] default shown numbers small = absurd shown
bound_is_asked (segment ∷ segments) (operation ∷ operations) default shown numbers small =
    let number = and_parts (has_number_if_bound segment) (list_all has_number_if_bound segments) numbers in
    let low = and_parts (is_small_if_bound segment) (list_all is_small_if_bound segments) small in
    by_test (is_bound_segment segment) refl number.0 low.0 (bound_is_asked segments operations default shown.1 number.1 low.1) where
      by_test : (bound : Bool) → is_bound_segment segment ≡ bound → has_number_if_bound segment ≡ true → is_small_if_bound segment ≡ true
          → IsBoundOf operations default (bound_said segments default)
          → IsBoundOf (operation ∷ operations) default (if bound then digits_value (word_at (behind segment)) else bound_said segments default)
      by_test true e number small later =
          let h = bound_number segment e number small in
          let dm = shown_dm segment operation shown.0 e h in
          let word = word_at (behind segment) in
          inr (
            word,
            in_same (operation ∷ operations) (dm_of word) operation (sym dm) (in_front operation operations),
            (and_parts (not (is_empty_text word)) (list_all is_digit word) h.digits).1,
            refl,
            h.some,
            h.few,
          )
      by_test false e number small later =
          no_more_dm operation operations default (bound_said segments default) (other_opcode segment operation shown.0 e) later

-- The other way: an asked bound is that of the segments, and they pass the tests.
fewer_dm : (operation : Operation) (operations : List Operation) (default bound : ℕ) → operation.opcode ≢ codes "dm"
    → IsBoundOf (operation ∷ operations) default bound → IsBoundOf operations default bound
fewer_dm operation operations default bound other (inl h) = inl ((λ o inside. h.0 o (in_back operation operations o inside)), h.1)
fewer_dm operation operations default bound other (inr h) = elim (in_cases operation operations (dm_of h.0) h.1) [
  | inl e ↦ absurd (other (sym (ap (λ x. x.opcode) e)))
  | inr more ↦ inr (h.0, more, h.2, h.3, h.4, h.5)
]

asked_here : (operation : Operation) (operations : List Operation) (default bound : ℕ) → AreOnce (operation ∷ operations)
    → operation.opcode ≡ codes "dm" → IsBoundOf (operation ∷ operations) default bound
    → (word : List ℕ) × (operation ≡ dm_of word) × (list_all is_digit word ≡ true) × (bound ≡ digits_value word) × (1 ≤ bound) × (bound ≤ 15)
asked_here operation operations default bound once dm (inl h) = absurd (h.0 operation (in_front operation operations) dm)
asked_here operation operations default bound once dm (inr h) = elim (in_cases operation operations (dm_of h.0) h.1) [
  | inl e ↦ (h.0, sym e, h.2, h.3, h.4, h.5)
  | inr more ↦ absurd (once.0 (dm_of h.0) more (sym dm))
]

-- what the segments show of the bound
pub record IsBoundIn (segments : List (List ℕ)) (default bound : ℕ) : Type 0 where
  pub same : bound ≡ bound_said segments default
  pub numbers : list_all has_number_if_bound segments ≡ true
  pub small : list_all is_small_if_bound segments ≡ true

-- `dm` with its number
record IsNumbered (segment : List ℕ) (bound : ℕ) : Type 0 where
  pub same : bound ≡ digits_value (word_at (behind segment))
  pub number : has_number segment ≡ true
  pub small : nat_le (digits_value (word_at (behind segment))) 15 ≡ true

number_some : (word : List ℕ) → word ≢ [] → list_all is_digit word ≡ true → is_number word ≡ true
number_some [] some digits = absurd (some refl)
number_some (b ∷ bs) some digits = digits

dm_numbered : (segment word : List ℕ) (bound : ℕ) → SpellsOperands (behind segment) (Word word ∷ []) → list_all is_digit word ≡ true
    → bound ≡ digits_value word → 1 ≤ bound → bound ≤ 15 → IsNumbered segment bound
dm_numbered segment word bound spelled digits value some few =
    let one = one_word (behind segment) word spelled in
    let here : bound ≡ digits_value (word_at (behind segment)) = value ∙ ap digits_value (sym one.0) in
    let number : is_number (word_at (behind segment)) ≡ true = ap is_number one.0 ∙ number_some word spelled.3.0 digits in
    let blank = one.1 in
    let above : nat_lt 0 (digits_value (word_at (behind segment))) ≡ true = ap (nat_lt 0) (sym here) ∙ over bound some in
    record { same = here; number = rw (number, blank) above; small = ap (λ n. nat_le n 15) (sym here) ∙ under bound few } where
      over : (n : ℕ) → 1 ≤ n → nat_lt 0 n ≡ true
      over n h = grind (arith, nat_tests)

      under : (n : ℕ) → n ≤ 15 → nat_le n 15 ≡ true
      under n h = grind (arith, nat_tests)

pub asked_is_bound : (segments : List (List ℕ)) (operations : List Operation) (default bound : ℕ) → AreShown segments operations → AreOnce operations
    → IsBoundOf operations default bound → IsBoundIn segments default bound
unfolding bound_said
asked_is_bound [] [] default bound shown once (inl h) = record { same = h.1; numbers = refl; small = refl }
asked_is_bound [] [] default bound shown once (inr h) = absurd (in_none (dm_of h.0) h.1)
asked_is_bound [] (operation ∷ operations) default bound shown once h = absurd shown
asked_is_bound (segment ∷ segments) [] default bound shown once h = absurd shown
asked_is_bound (segment ∷ segments) (operation ∷ operations) default bound shown once h =
    by_test (is_bound_segment segment) refl (asked_is_bound segments operations default default shown.1 once.1)
    (asked_is_bound segments operations default bound shown.1 once.1) where
      by_test : (test : Bool) → is_bound_segment segment ≡ test → (IsBoundOf operations default default → IsBoundIn segments default default)
          → (IsBoundOf operations default bound → IsBoundIn segments default bound)
          → IsBoundIn (segment ∷ segments) default bound
      by_test true e none more =
          let dm = bound_opcode segment operation shown.0 e in
          let got = asked_here operation operations default bound once dm h in
          let spelled : SpellsOperands (behind segment) (Word got.0 ∷ []) =
          subst (λ o. SpellsOperands (behind segment) o.operands) got.1 shown.0.operands in
          let here = dm_numbered segment got.0 bound spelled got.2 got.3 got.4 got.5 in
          let later = none (inl ((λ o inside is. once.0 o inside (is ∙ sym dm)), refl)) in
          record { same = rw e here.same; numbers = rw (e, here.number) later.numbers; small = rw (e, here.small) later.small }
      by_test false e none more =
          let later = more (fewer_dm operation operations default bound (other_opcode segment operation shown.0 e) h) in
          record { same = rw e later.same; numbers = rw e later.numbers; small = rw e later.small }
