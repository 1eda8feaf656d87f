-- The operations that a record keeps, and what an answer's operations are beside them.
use Rattle.std.proofs.Common.{◌≡◌, ℕ, List, [], ◌∷◌, true, false, Contains, map, refl, ap, sym, ◌∙◌, subst, inl, inr}
use Rattle.chess_notation.specs.Operations.{Operation, Entry, entry_of}
use Rattle.chess_notation.specs.Opcodes.{comes_before, is_own, IsBelow, RisesByOpcode}
use Rattle.chess_notation.specs.Records.{AreOnce, IsKeptOf, IsRestOf}
use Rattle.chess_notation.proofs.Members.{in_front, in_back, in_none, in_cases, in_map, in_map_from}
use Rattle.chess_notation.proofs.TextOrder.{comes_before_self}
use Rattle.chess_notation.proofs.MergedOperations.{Each, with_operation, with_operation_cases, with_operation_other}
use Rattle.chess_notation.proofs.MergedOperations.{Each-with_operation, IsNew, once_with_operation}
use Rattle.chess_notation.proofs.SpellableOperations.{IsSpellable}

below_is_new : (opcode : List ℕ) (os : List Operation) → IsBelow opcode (map entry_of os) → IsNew opcode os
below_is_new opcode [] below x at = absurd (in_none x at)
below_is_new opcode (o ∷ os) below x at = elim (in_cases o os x at) [
  | inl here ↦ λ e.
      let same : comes_before opcode opcode ≡ true = ap (comes_before opcode) (sym e ∙ ap (λ t. t.opcode) here) ∙ below.0 in
      let never = comes_before_self opcode in cc
  | inr there ↦ below_is_new opcode os below.1 x there
]

once_rising : (os : List Operation) → RisesByOpcode (map entry_of os) → AreOnce os
once_rising [] rises = tt
once_rising (o ∷ os) rises = (below_is_new o.opcode os rises.0, once_rising os rises.1)

-- one of the line's operations that an answer copies
abbrev pub IsCopied : List Operation → Operation → Type 0
IsCopied line o = IsSpellable o × (is_own o.opcode ≡ false) × Contains line o

-- Entries of such operations.
pub record AreCopied (line : List Operation) (entries : List Entry) : Type 0 where
  pub operations : List Operation
  pub shown : map entry_of operations ≡ entries
  pub each : Each (IsCopied line) operations

pub are_copied : (line : List Operation) (entries : List Entry)
    → ((entry : Entry) → Contains entries entry → (o : Operation) × IsCopied line o × (entry ≡ entry_of o))
    → AreCopied line entries
are_copied line [] from = record { operations = []; shown = refl; each = λ x at. absurd (in_none x at) }
are_copied line (entry ∷ entries) from =
    let here = from entry (in_front entry entries) in
    let rest = are_copied line entries (λ e at. from e (in_back entry entries e at)) in
    record {
      operations = here.0 ∷ rest.operations;
      shown = ap (λ t. t ∷ map entry_of rest.operations) (sym here.2) ∙ ap (λ t. entry ∷ t) rest.shown;
      each = λ x at. elim (in_cases here.0 rest.operations x at) [
        | inl is ↦ subst (IsCopied line) (sym is) here.1
        | inr there ↦ rest.each x there
      ];
    }

-- In the list stand those that are copied, and beside them only what an answer writes itself.
pub record IsAnswer (copied all : List Operation) : Type 0 where
  pub spellable : Each IsSpellable all
  pub once : AreOnce all
  pub copies : (o : Operation) → Contains copied o → Contains all o
  pub only : (o : Operation) → is_own o.opcode ≡ false → Contains all o → Contains copied o

pub answer_alone : {line : List Operation} (entries : List Entry) (copied : AreCopied line entries) → RisesByOpcode entries
    → IsAnswer copied.operations copied.operations
answer_alone entries copied rises = record {
  spellable = λ o at. (copied.each o at).0;
  once = once_rising copied.operations (subst RisesByOpcode (sym copied.shown) rises);
  copies = λ o at. at;
  only = λ o other at. at;
}

pub answer_with : (own : Operation) (copied all : List Operation) → IsSpellable own → is_own own.opcode ≡ true
    → IsNew own.opcode all → IsAnswer copied all
    → IsAnswer copied (with_operation own all)
answer_with own copied all spellable written new answer = record {
  spellable = Each-with_operation IsSpellable own all spellable answer.spellable;
  once = once_with_operation own all new answer.once;
  copies = λ o at. with_operation_other own all o (answer.copies o at);
  only = λ o other at. elim (with_operation_cases own all o at) [
    | inl here ↦ let written_too : is_own o.opcode ≡ true = ap (λ t. is_own t.opcode) here ∙ written in cc
    | inr there ↦ answer.only o other there
  ];
}

-- No copied operation has an opcode that an answer writes itself.
pub own_is_new : (line : List Operation) (opcode : List ℕ) (os : List Operation) → is_own opcode ≡ true → Each (IsCopied line) os → IsNew opcode os
own_is_new line opcode os own each x at e = let other : is_own x.opcode ≡ false = (each x at).1 in
    let own_too : is_own x.opcode ≡ true = ap is_own e ∙ own in cc

-- What an answer keeps when it is read is what was copied.
pub rest_of_answer : {line : List Operation} (entries : List Entry) (copied : AreCopied line entries) (all : List Operation)
    → RisesByOpcode entries → IsAnswer copied.operations all → IsRestOf all entries
rest_of_answer entries copied all rises answer = (rises, λ entry. (to entry, from entry)) where
  to : (entry : Entry) → Contains entries entry → IsKeptOf all entry
  to entry at =
      let shown = in_map_from entry_of copied.operations entry (subst (λ es. Contains es entry) (sym copied.shown) at) in
      (shown.0, answer.copies shown.0 shown.1, (copied.each shown.0 shown.1).1, shown.2)

  from : (entry : Entry) → IsKeptOf all entry → Contains entries entry
  from entry (o, at, other, e) =
      let shown : Contains (map entry_of copied.operations) entry = subst (Contains (map entry_of copied.operations)) (sym e)
      (in_map entry_of copied.operations o (answer.only o other at)) in
      subst (λ es. Contains es entry) copied.shown shown
