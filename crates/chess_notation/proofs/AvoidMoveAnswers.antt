-- An answer asks to avoid what its record does, since it copies `am`.
use Rattle.std.proofs.Common.{◌≡◌, List, [], ◌∷◌, Contains, refl, ap, sym, ◌∙◌, subst, inl, inr}
use Rattle.chess_board.specs.Positions.{Setup}
use Rattle.chess_board.specs.Moves.{Move}
use Rattle.chess_notation.specs.Operations.{Operation, Entry, entry_of}
use Rattle.chess_notation.specs.Opcodes.{is_own}
use Rattle.chess_notation.specs.Records.{AreOnce, am_of, IsRestOf, AreToAvoid}
use Rattle.chess_notation.proofs.Members.{in_none, in_cases, in_map_from}
use Rattle.chess_notation.proofs.KeptOperations.{AreCopied, IsAnswer}

-- Where each opcode stands once, it tells an operation from the others.
once_same : (os : List Operation) (a b : Operation) → AreOnce os → Contains os a → Contains os b → a.opcode ≡ b.opcode → a ≡ b
once_same [] a b once in_a in_b same = absurd (in_none a in_a)
once_same (o ∷ os) a b once in_a in_b same = elim (in_cases o os a in_a) [
  | inl first_a ↦ elim (in_cases o os b in_b) [
    | inl first_b ↦ first_a ∙ sym first_b
    | inr later_b ↦ absurd (once.0 b later_b (sym same ∙ ap (λ x. x.opcode) first_a))
  ]
  | inr later_a ↦ elim (in_cases o os b in_b) [
    | inl first_b ↦ absurd (once.0 a later_a (same ∙ ap (λ x. x.opcode) first_b))
    | inr later_b ↦ once_same os a b once.1 later_a later_b same
  ]
]

pub avoid_of_answer : (line : List Operation) (entries : List Entry) (copied : AreCopied line entries) → AreOnce line → IsRestOf line entries
    → (p : Setup) (avoid : List Move) → AreToAvoid p line avoid → (all : List Operation) → IsAnswer copied.operations all → AreToAvoid p all avoid
avoid_of_answer line entries copied once rest p avoid (inl h) all answer = inl (
  (λ o at am. h.0 o (copied.each o (answer.only o (ap is_own am) at)).2 am),
  h.1,
)
avoid_of_answer line entries copied once rest p avoid (inr h) all answer =
    let am = am_of h.0 in
    let kept : Contains entries (entry_of am) = (rest.1 (entry_of am)).1 (am, h.1, refl, refl) in
    let shown = in_map_from entry_of copied.operations (entry_of am) (subst (λ es. Contains es (entry_of am)) (sym copied.shown) kept) in
    let same : shown.0 ≡ am = once_same line shown.0 am once (copied.each shown.0 shown.1).2 h.1 (sym (ap (λ e. e.opcode) shown.2)) in
    inr (h.0, subst (Contains all) same (answer.copies shown.0 shown.1), h.2, h.3, h.4)
