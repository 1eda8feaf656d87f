use Rattle.std.proofs.Common.{◌≡◌, ◌≤◌, ℕ, List, Some, None, Option, Bor, IfSome, IfNone, length, ◌∙◌, subst, inl, inr, refl, arith}
use Rattle.chess_notation.specs.Segments.{segments_of}
use Rattle.chess_notation.specs.inside.RecordReading.{avoid_text_in, avoid_in}
use Rattle.chess_notation.proofs.EntryOrder.{rest_rises, rest_kept}
use Rattle.chess_notation.proofs.NamedMoves.{avoid_rises}
use Rattle.chess_notation.proofs.RecordMade.{asked_names, unasked_names, asked_moves, unasked_moves}
use Rattle.chess_notation.proofs.record_reading.record_of.Goals as goal
use Rattle.chess_notation.proofs.record_reading.record_of.Goals.{in-Some+in-Some-named_moves, in-None}

abbrev IsBehind : List ℕ → Option (Bor (List ℕ)) → Type 0
IsBehind text avoid = IfSome avoid (λ words. avoid_text_in (segments_of text).ended ≡ Some words.now)

abbrev IsNothing : List ℕ → Option (Bor (List ℕ)) → Type 0
IsNothing text avoid = IfNone avoid (avoid_text_in (segments_of text).ended ≡ None)

pub named_moves-requires : goal.named_moves-requires
named_moves-requires c =
    let shorter = subst (λ (o : Option (Bor (List ℕ))). IfSome o (λ words. length words.now ≤ length c.args.text.now))
    c.in-Some.is c.requires.shorter in
    omega (arith, shorter, c.requires.short)

pub returns-in-None-named_moves-clause-refused : goal.returns-in-None-named_moves-clause-refused
returns-in-None-named_moves-clause-refused c =
    let there = subst (IsBehind c.args.text.now) c.in-Some.is c.requires.avoid in
    inl (
      refl,
      asked_names c.args.position (segments_of c.args.text.now).ended c.in-Some.words.now c.requires.distinct there
          ∙ c.in-None-named_moves.ensures.refused,
    )

pub invariant_of-result : goal.invariant_of-result
invariant_of-result c =
    let avoid : c.match-asked.avoid.items ≡ avoid_in c.args.position (segments_of c.args.text.now).ended = elim c.match-asked.branch [
      | in-Some+in-Some-named_moves w ↦
          let there = subst (IsBehind c.args.text.now) w.in-Some.is c.requires.avoid in
          rw w.avoid-is (w.in-Some-named_moves.ensures.moves
          ∙ asked_moves c.args.position (segments_of c.args.text.now).ended w.in-Some.words.now there)
      | in-None w ↦
          let none = subst (IsNothing c.args.text.now) w.in-None.is c.requires.nothing in
          rw w.avoid-is (w.new-avoid.ensures ∙ unasked_moves c.args.position (segments_of c.args.text.now).ended none)
    ] in (
      rw avoid (avoid_rises c.legal_rise.ensures c.args.position _),
      rw c.in-Ok.ensures.ok (rest_rises _ c.requires.distinct),
      rw c.in-Ok.ensures.ok (rest_kept _),
    )

pub returns-in-Ok-clause-made : goal.returns-in-Ok-clause-made
returns-in-Ok-clause-made c =
    let avoid : c.match-asked.avoid.items ≡ avoid_in c.args.position (segments_of c.args.text.now).ended = elim c.match-asked.branch [
      | in-Some+in-Some-named_moves w ↦
          let there = subst (IsBehind c.args.text.now) w.in-Some.is c.requires.avoid in
          rw w.avoid-is (w.in-Some-named_moves.ensures.moves
          ∙ asked_moves c.args.position (segments_of c.args.text.now).ended w.in-Some.words.now there)
      | in-None w ↦
          let none = subst (IsNothing c.args.text.now) w.in-None.is c.requires.nothing in
          rw w.avoid-is (w.new-avoid.ensures ∙ unasked_moves c.args.position (segments_of c.args.text.now).ended none)
    ] in
    λ i. record { position = c.args.position; bound = c.args.asked.bound; avoid = avoid i; rest = c.in-Ok.ensures.ok i }

pub returns-in-Ok-clause-names : goal.returns-in-Ok-clause-names
returns-in-Ok-clause-names c = elim c.match-asked.branch [
  | in-Some+in-Some-named_moves w ↦
      let there = subst (IsBehind c.args.text.now) w.in-Some.is c.requires.avoid in
      asked_names c.args.position (segments_of c.args.text.now).ended w.in-Some.words.now c.requires.distinct there
      ∙ w.in-Some-named_moves.ensures.names
  | in-None w ↦
      let none = subst (IsNothing c.args.text.now) w.in-None.is c.requires.nothing in
      unasked_names c.args.position (segments_of c.args.text.now).ended c.requires.distinct none
]

pub returns-in-Err-clause-refused : goal.returns-in-Err-clause-refused
returns-in-Err-clause-refused c = inr (
  refl,
  (
    elim c.match-asked.branch [
      | in-Some+in-Some-named_moves w ↦
          let there = subst (IsBehind c.args.text.now) w.in-Some.is c.requires.avoid in
          asked_names c.args.position (segments_of c.args.text.now).ended w.in-Some.words.now c.requires.distinct there
          ∙ w.in-Some-named_moves.ensures.names
      | in-None w ↦
          let none = subst (IsNothing c.args.text.now) w.in-None.is c.requires.nothing in
          unasked_names c.args.position (segments_of c.args.text.now).ended c.requires.distinct none
    ],
    c.in-Err.ensures.err,
  ),
)
