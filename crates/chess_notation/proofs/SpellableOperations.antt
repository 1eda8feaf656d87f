-- Operations whose printed text spells them.
use Rattle.std.proofs.Common.{◌≡◌, ℕ, List, [], ◌∷◌, ◌++◌, true, map, refl, ap, sym, ◌∙◌, subst, inl, inr, append_assoc, replicate}
use Rattle.std.specs.List.{list_all}
use Rattle.chess_notation.specs.Operations.{is_opcode, is_printable, Operand, operand_text, IsOperand, SpellsOperands}
use Rattle.chess_notation.specs.Operations.{Operation, SpellsOperation, SpellsOperations, operands_text, entry_of}
use Rattle.chess_notation.specs.Operations.Operand.{Word}
use Rattle.chess_notation.specs.Answers.{entry_text, entries_text, operand_words}
use Rattle.chess_notation.proofs.PlainBytes.{list_all-parts, list_all-both, plain_word_bytes, plain_all_printable, opcode_printable}
use Rattle.chess_notation.proofs.SanBytes.{IsPlainWord}
use Rattle.chess_notation.proofs.Members.{in_front, in_none, in_cases}
use Rattle.chess_notation.proofs.MergedOperations.{Each, Each-tail}

abbrev pub AreOperands : List Operand → Type 0
AreOperands [] = Unit {0}
AreOperands (operand ∷ operands) = IsOperand operand × AreOperands operands

-- what is printed of it spells it
pub record IsSpellable (o : Operation) : Type 0 where
  pub opcode : is_opcode o.opcode ≡ true
  pub operands : AreOperands o.operands
  pub printable : list_all is_printable (operands_text o.operands) ≡ true

spelled_operands : (operands : List Operand) → AreOperands operands → SpellsOperands (operands_text operands) operands
spelled_operands [] are = (0, refl)
spelled_operands (operand ∷ operands) are = (0, operands_text operands, refl, are.0, spelled_operands operands are.1)

pub spelled_operations : (os : List Operation) → Each IsSpellable os → SpellsOperations (entries_text (map entry_of os)) os
spelled_operations [] each = (0, refl)
spelled_operations (o ∷ os) each =
    let is = each o (in_front o os) in
    let segment = 32 ∷ (o.opcode ++ operands_text o.operands) in
    let rest = entries_text (map entry_of os) in (
      segment,
      rest,
      append_assoc segment (59 ∷ []) rest,
      (1, operands_text o.operands, refl, is.opcode, spelled_operands o.operands is.operands),
      spelled_operations os (Each-tail IsSpellable o os each),
    )

pub printed_operations : (os : List Operation) → Each IsSpellable os → list_all is_printable (entries_text (map entry_of os)) ≡ true
printed_operations [] each = refl
printed_operations (o ∷ os) each =
    let is = each o (in_front o os) in
    let segment : list_all is_printable (32 ∷ (o.opcode ++ operands_text o.operands)) ≡ true =
    list_all-both is_printable o.opcode (operands_text o.operands) (opcode_printable o.opcode is.opcode) is.printable in
    list_all-both is_printable (entry_text (entry_of o)) (entries_text (map entry_of os))
    (list_all-both is_printable (32 ∷ (o.opcode ++ operands_text o.operands)) (59 ∷ []) segment refl)
    (printed_operations os (Each-tail IsSpellable o os each))

-- Operations that a printable text spells are such.
spellable_operands : (operands : List Operand) (text : List ℕ) → SpellsOperands text operands → list_all is_printable text ≡ true
    → AreOperands operands × (list_all is_printable (operands_text operands) ≡ true)
spellable_operands [] text h printable = (tt, refl)
spellable_operands (operand ∷ operands) text (more, rest, e, is, spelt) printable =
    let parts = list_all-parts is_printable (32 ∷ replicate more 32) (operand_text operand ++ rest)
    (sym (ap (list_all is_printable) e) ∙ printable) in
    let token = list_all-parts is_printable (operand_text operand) rest parts.1 in
    let others = spellable_operands operands rest spelt token.1 in
    ((is, others.0), list_all-both is_printable (operand_text operand) (operands_text operands) token.0 others.1)

spellable_operation : (o : Operation) (segment : List ℕ) → SpellsOperation segment o → list_all is_printable segment ≡ true → IsSpellable o
spellable_operation o segment (n, rest, e, opcode, spelt) printable =
    let parts = list_all-parts is_printable (replicate n 32) (o.opcode ++ rest) (sym (ap (list_all is_printable) e) ∙ printable) in
    let behind = list_all-parts is_printable o.opcode rest parts.1 in
    let are = spellable_operands o.operands rest spelt behind.1 in
    record { opcode = opcode; operands = are.0; printable = are.1 }

pub spellable_operations : (os : List Operation) (text : List ℕ) → SpellsOperations text os → list_all is_printable text ≡ true → Each IsSpellable os
spellable_operations [] text h printable x at = absurd (in_none x at)
spellable_operations (o ∷ os) text (segment, rest, e, one, spelt) printable x at =
    let parts = list_all-parts is_printable segment (59 ∷ rest) (sym (ap (list_all is_printable) e) ∙ printable) in
    let behind : list_all is_printable rest ≡ true = parts.1 in
    elim (in_cases o os x at) [
      | inl here ↦ subst IsSpellable (sym here) (spellable_operation o segment one parts.0)
      | inr there ↦ spellable_operations os rest spelt behind x there
    ]

-- Plain words are operands.
abbrev pub ArePlain : List (List ℕ) → Type 0
ArePlain [] = Unit {0}
ArePlain (word ∷ words) = IsPlainWord word × ArePlain words

words_are_operands : (words : List (List ℕ)) → ArePlain words → AreOperands (map Word words)
words_are_operands [] are = tt
words_are_operands (word ∷ words) are = ((are.0.0, plain_word_bytes word are.0.1), words_are_operands words are.1)

words_printable : (words : List (List ℕ)) → ArePlain words → list_all is_printable (operands_text (map Word words)) ≡ true
words_printable [] are = refl
words_printable (word ∷ words) are = list_all-both is_printable word (operands_text (map Word words))
    (plain_all_printable word are.0.1) (words_printable words are.1)

words_text : (words : List (List ℕ)) → operands_text (map Word words) ≡ operand_words words
words_text [] = refl
words_text (word ∷ words) = ap (λ t. 32 ∷ (word ++ t)) (words_text words)

-- an operation of plain words
abbrev pub words_operation : List ℕ → List (List ℕ) → Operation
words_operation opcode words = record { opcode = opcode; operands = map Word words }

pub entry_of-words : (opcode : List ℕ) (words : List (List ℕ))
    → entry_of (words_operation opcode words) ≡ record { opcode = opcode; operands = operand_words words }
entry_of-words opcode words = ap (λ t. record { opcode = opcode; operands = t }) (words_text words)

pub words_spellable : (opcode : List ℕ) (words : List (List ℕ)) → is_opcode opcode ≡ true → ArePlain words
    → IsSpellable (words_operation opcode words)
words_spellable opcode words is are = record { opcode = is; operands = words_are_operands words are; printable = words_printable words are }
