use Rattle.std.proofs.Common.{◌≡◌, ◌≢◌, ◌∙◌, ◌<◌, ◌≤◌, ◌+◌, ◌++◌, ◌==◌, ◌∷◌, [], ℕ, List, not, filter, drop, length, get_or, refl, sym, ap, append_assoc, append-nil, drop-cons, add-one}
use Rattle.std.proofs.lemmas.Bool.{ne_eqb, eq-eqb}
use Rattle.std.proofs.lemmas.List.{drop_all}
use Rattle.mate_claims.proofs.rows.unquoted_text.Goals.{then-byte-ne34+in_ok-push, else-byte-ne34}
use Rattle.mate_claims.proofs.rows.unquoted_text.Goals as goal

unquoted_rest : List ℕ → List ℕ
unquoted_rest bytes = filter (λ b. not (b == 34)) bytes

kept : (old new bytes : List ℕ) (i : ℕ) → i < length bytes → get_or bytes i 0 ≢ 34 → new ≡ old ++ get_or bytes i 0 ∷ []
    → new ++ unquoted_rest (drop (i + 1) bytes) ≡ old ++ unquoted_rest (drop i bytes)
unfolding unquoted_rest
kept old new bytes i on other is = rw (is, append_assoc, drop-cons bytes i 0 on, add-one i, ne_eqb (get_or bytes i 0) 34 other) refl

passed : (old new bytes : List ℕ) (i : ℕ) → i < length bytes → get_or bytes i 0 ≡ 34 → new ≡ old
    → new ++ unquoted_rest (drop (i + 1) bytes) ≡ old ++ unquoted_rest (drop i bytes)
unfolding unquoted_rest
passed old new bytes i on mark is = rw (is, drop-cons bytes i 0 on, add-one i, eq-eqb (get_or bytes i 0) 34 mark) refl

whole : (old bytes : List ℕ) (i : ℕ) → length bytes ≤ i → old ++ unquoted_rest (drop i bytes) ≡ unquoted_rest bytes → old ≡ unquoted_rest bytes
unfolding unquoted_rest
whole old bytes i past so_far = sym (append-nil old) ∙ sym (ap (λ rest. old ++ unquoted_rest rest) (drop_all i bytes past)) ∙ so_far

pub loop-byte-preserved : goal.loop-byte-preserved
unfolding unquoted_rest
loop-byte-preserved c = elim c.if-byte-ne34.branch [
  | then-byte-ne34+in_ok-push w ↦ kept c.loop-byte.text.items c.if-byte-ne34.text.items c.without_first-byte-items.result.now c.loop-byte.byte-index
      c.loop-byte-test.true w.if-byte-ne34.true (ap (λ t. t.items) w.text-is ∙ w.in_ok-push.ensures.items) ∙ c.loop-byte.invariant
  | else-byte-ne34 w ↦ passed c.loop-byte.text.items c.if-byte-ne34.text.items c.without_first-byte-items.result.now c.loop-byte.byte-index
      c.loop-byte-test.true w.if-byte-ne34.false (ap (λ t. t.items) w.text-is) ∙ c.loop-byte.invariant
]

pub returns : goal.returns
unfolding unquoted_rest
returns c = whole c.loop-byte.text.items c.without_first-byte-items.result.now c.loop-byte.byte-index c.loop-byte-test.false c.loop-byte.invariant
    ∙ ap unquoted_rest c.without_first-byte-items.ensures
