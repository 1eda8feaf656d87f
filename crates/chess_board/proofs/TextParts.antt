-- A text that is cut at a byte.
use Rattle.std.proofs.Common.{◌≡◌, ◌≢◌, ℕ, ◌+◌, ◌-◌, ◌<◌, List, [], ◌∷◌, ◌++◌, true, false, length, ap, sym, ◌∙◌}
use Rattle.std.proofs.Common.{arith, take, drop, get_or, ◌==◌, take-append-drop, append_assoc, refl, suc}
use Rattle.std.specs.List.{slice_split, join_with_byte, All}
use Rattle.std.proofs.lemmas.Bool.Decides.{nat_tests}
use Rattle.std.proofs.lemmas.List.{drop_more, take_rest}
use Rattle.std.proofs.lemmas.List.Splits.{slice_split_none, slice_split_at, join_with_byte-slice_split}

-- A byte that is another one does not pass the test for it.
pub eqb-false : (a b : ℕ) → a ≢ b → (a == b) ≡ false
eqb-false a b other = grind (arith, nat_tests)

eqb-true : (a b : ℕ) → a ≡ b → (a == b) ≡ true
eqb-true a b same = grind (arith, nat_tests)

-- A text with no such byte is one part.
pub slice_split_whole : (byte : ℕ) (text : List ℕ) → All (λ b. b ≢ byte) text → slice_split (λ b. b == byte) text ≡ text ∷ []
slice_split_whole byte text lacks = slice_split_none (λ b. b == byte) text (λ k d inside. eqb-false (get_or text k d) byte (lacks k d inside))

-- The first part, and the parts of what follows the byte at which it ends.
pub slice_split_cut : (byte : ℕ) (text : List ℕ) (at : ℕ) → at < length text → All (λ b. b ≢ byte) (take at text) → get_or text at 0 ≡ byte
    → slice_split (λ b. b == byte) text ≡ take at text ∷ slice_split (λ b. b == byte) (take (length text - (at + 1)) (drop (at + 1) text))
slice_split_cut byte text at inside lacks here =
    let whole : take at text ++ get_or text at 0 ∷ drop (at + 1) text ≡ text =
    ap (λ t. take at text ++ t) (sym (drop_more text at 0 inside)) ∙ take-append-drop at text in
    ap (slice_split (λ b. b == byte)) (sym whole)
    ∙ slice_split_at (λ b. b == byte) (take at text) (get_or text at 0) (drop (at + 1) text)
    (λ k d below. eqb-false (get_or (take at text) k d) byte (lacks k d below)) (eqb-true (get_or text at 0) byte here)
    ∙ ap (λ t. take at text ∷ slice_split (λ b. b == byte) t) (sym (take_rest text (at + 1)))

-- A text that is one part is that part.
pub slice_split_one : (byte : ℕ) (text : List ℕ) → length (slice_split (λ b. b == byte) text) ≡ 1 → slice_split (λ b. b == byte) text ≡ text ∷ []
slice_split_one byte text one = only (slice_split (λ b. b == byte) text) one (join_with_byte-slice_split byte text) where
  only : (parts : List (List ℕ)) → length parts ≡ 1 → join_with_byte byte parts ≡ text → parts ≡ text ∷ []
  only [] one joined = absurd (omega arith)
  only (part ∷ []) one joined = ap (λ t. t ∷ []) joined
  only (part ∷ next ∷ parts) one joined = absurd (omega arith)

-- Parts that lack the byte, joined by it and cut at it, are the parts again.
pub slice_split-join_with_byte : (byte : ℕ) (part : List ℕ) (parts : List (List ℕ)) → All (λ x. All (λ b. b ≢ byte) x) (part ∷ parts)
    → slice_split (λ b. b == byte) (join_with_byte byte (part ∷ parts)) ≡ part ∷ parts
slice_split-join_with_byte byte part [] lack = slice_split_whole byte part (lack 0 [] (omega arith))
slice_split-join_with_byte byte part (next ∷ parts) lack =
    let first : All (λ b. b ≢ byte) part = lack 0 [] (omega arith) in
    slice_split_at (λ b. b == byte) part byte (join_with_byte byte (next ∷ parts))
    (λ k d below. eqb-false (get_or part k d) byte (first k d below)) (eqb-true byte byte refl)
    ∙ ap (λ t. part ∷ t) (slice_split-join_with_byte byte next parts (λ k d below. lack (suc k) d (omega arith)))

-- A last part stands after one more byte.
pub join_with_byte_push : (byte : ℕ) (part : List ℕ) (parts : List (List ℕ)) (last : List ℕ)
    → join_with_byte byte ((part ∷ parts) ++ last ∷ []) ≡ join_with_byte byte (part ∷ parts) ++ byte ∷ last
join_with_byte_push byte part [] last = refl
join_with_byte_push byte part (next ∷ parts) last =
    ap (λ t. part ++ byte ∷ t) (join_with_byte_push byte next parts last)
    ∙ sym (append_assoc part (byte ∷ join_with_byte byte (next ∷ parts)) (byte ∷ last))
