-- The texts of several ranks: what bytes they have, and how they make a placement field.
use Rattle.std.proofs.Common.{◌≡◌, ◌≢◌, ℕ, zero, suc, ◌+◌, ◌-◌, ◌*◌, ◌<◌, ◌≤◌, List, [], ◌∷◌, ◌++◌, length}
use Rattle.std.proofs.Common.{refl, ap, sym, ◌∙◌, arith, Option, Some, None, take, drop, get_or, ◌==◌}
use Rattle.std.proofs.Common.{length-append, length-drop, length-take-le, append_assoc, inl, inr}
use Rattle.std.specs.List.{All, slice_split, join_with_byte}
use Rattle.std.proofs.lemmas.List.{drop-drop, take_at, drop_at, get_or_at, get_or_append_left}
use Rattle.std.proofs.lemmas.List.Elements.{All-nil, All-cons, All-append}
use Rattle.std.proofs.lemmas.Bool.{cases_lt}
use Rattle.chess_board.specs.declared.men.Man.{Man}
use Rattle.chess_board.specs.Placement.{man_letter, run_text, rank_text_after, rank_text, rank_places, placement_text}
use Rattle.chess_board.proofs.RankLetters.{man_letter_above}
use Rattle.chess_board.proofs.TextParts.{slice_split-join_with_byte, join_with_byte_push}

run_text_above : (n : ℕ) → All (λ b. 48 < b) (run_text n)
run_text_above zero = All-nil (λ b. 48 < b)
run_text_above (suc n) = All-cons (λ b. 48 < b) (48 + suc n) [] (omega arith) (All-nil (λ b. 48 < b))

-- A rank's text has letters and the digits from 1 on.
pub rank_text_above : (n : ℕ) (places : List (Option Man)) → All (λ b. 48 < b) (rank_text_after n places)
rank_text_above n [] = run_text_above n
rank_text_above n (None ∷ places) = rank_text_above (suc n) places
rank_text_above n ((Some man) ∷ places) =
    let letter : 65 < man_letter man = man_letter_above man in
    All-append (λ b. 48 < b) (run_text n) (man_letter man ∷ rank_text_after 0 places) (run_text_above n)
    (All-cons (λ b. 48 < b) (man_letter man) (rank_text_after 0 places) (omega arith) (rank_text_above 0 places))

-- The texts of so many ranks, from the uppermost down, where the first of the men stand on the lowest.
abbrev pub rank_texts : ℕ → List (Option Man) → List (List ℕ)
rank_texts zero men = []
rank_texts (suc n) men = rank_texts n (drop 8 men) ++ rank_text (take 8 men) ∷ []

pub length-rank_texts : (n : ℕ) (men : List (Option Man)) → length (rank_texts n men) ≡ n
length-rank_texts zero men = refl
length-rank_texts (suc n) men =
    omega (arith, length-append (rank_texts n (drop 8 men)) (rank_text (take 8 men) ∷ []), length-rank_texts n (drop 8 men))

-- One more rank below those.
pub rank_texts_more : (n : ℕ) (places upper : List (Option Man)) → length places ≡ 8
    → rank_texts (suc n) (places ++ upper) ≡ rank_texts n upper ++ rank_text places ∷ []
rank_texts_more n places upper eight = rw (drop_at places upper 8 eight, take_at places upper 8 eight) refl

-- Each of the texts is that of eight squares.
pub rank_at : (n : ℕ) (men : List (Option Man)) (k : ℕ) → length men ≡ 8 * n → k < n
    → (places : List (Option Man)) × (length places ≡ 8) × (rank_text places ≡ get_or (rank_texts n men) k [])
rank_at zero men k long inside = absurd (omega arith)
rank_at (suc n) men k long inside = elim (cases_lt k n) [
  | inl below ↦
      let upper = rank_at n (drop 8 men) k (rw length-drop (omega arith)) below in (
        upper.0,
        upper.1,
        upper.2
            ∙ sym (get_or_append_left (rank_texts n (drop 8 men)) (rank_text (take 8 men) ∷ []) [] k (rw length-rank_texts below)),
      )
  | inr last ↦ (
    take 8 men,
    length-take-le 8 men (omega arith),
    sym (get_or_at (rank_texts n (drop 8 men)) (rank_text (take 8 men)) [] [] k
        (length-rank_texts n (drop 8 men) ∙ omega arith)),
  )
]

-- A byte below the digits 1 to 8 stands in none of them.
pub rank_texts_lack : (byte : ℕ) → byte ≤ 48 → (n : ℕ) (men : List (Option Man)) → All (λ part. All (λ b. b ≢ byte) part) (rank_texts n men)
rank_texts_lack byte low zero men = All-nil (λ part. All (λ b. b ≢ byte) part)
rank_texts_lack byte low (suc n) men =
    let lacks : All (λ b. b ≢ byte) (rank_text (take 8 men)) = λ k d inside same. let above : 48
    < get_or (rank_text (take 8 men)) k d = rank_text_above 0 (take 8 men) k d inside in absurd (omega arith) in
    All-append (λ part. All (λ b. b ≢ byte) part) (rank_texts n (drop 8 men)) (rank_text (take 8 men) ∷ []) (rank_texts_lack byte low n (drop 8 men))
    (All-cons (λ part. All (λ b. b ≢ byte) part) (rank_text (take 8 men)) [] lacks (All-nil (λ part. All (λ b. b ≢ byte) part)))

-- The placement field is these texts, joined by slashes.
pub placement_text-rank_texts : (men : List (Option Man)) → placement_text men ≡ join_with_byte 47 (rank_texts 8 men)
placement_text-rank_texts men = simp drop-drop

-- Cut at its slashes it is these texts again.
pub slice_split-placement_text : (men : List (Option Man)) → slice_split (λ b. b == 47) (placement_text men) ≡ rank_texts 8 men
slice_split-placement_text men =
    ap (slice_split (λ b. b == 47)) (placement_text-rank_texts men)
    ∙ slice_split-join_with_byte 47 _ _ (rank_texts_lack 47 (omega arith) 8 men)

-- One more rank below others, as it is printed.
pub join_with_byte-rank_texts_more : (n : ℕ) (men : List (Option Man)) → join_with_byte 47 (rank_texts (suc (suc n)) men)
    ≡ join_with_byte 47 (rank_texts (suc n) (drop 8 men)) ++ 47 ∷ rank_text (take 8 men)
join_with_byte-rank_texts_more n men = after_first (rank_texts (suc n) (drop 8 men)) (length-rank_texts (suc n) (drop 8 men)) where
  after_first : (parts : List (List ℕ)) → length parts ≡ suc n
      → join_with_byte 47 (parts ++ rank_text (take 8 men) ∷ []) ≡ join_with_byte 47 parts ++ 47 ∷ rank_text (take 8 men)
  after_first [] long = absurd (omega arith)
  after_first (part ∷ parts) long = join_with_byte_push 47 part parts (rank_text (take 8 men))

-- The ranks from one on upwards, and the same with the next one below it printed after a slash.
pub printed_more : (above rank : ℕ) (men : List (Option Man)) (before text : List ℕ) → above ≡ rank + 1 → above < 8
    → text ≡ before ++ join_with_byte 47 (rank_texts (8 - above) (drop (8 * above) men))
    → (text ++ 47 ∷ []) ++ rank_text (rank_places men rank) ≡ before ++ join_with_byte 47 (rank_texts (8 - rank) (drop (8 * rank) men))
printed_more above rank men before text next inside so_far =
    let n : 8 - above ≡ suc (7 - above) = omega arith in
    let more : suc (suc (7 - above)) ≡ 8 - rank = omega arith in
    let upper : drop (8 * above) men ≡ drop 8 (drop (8 * rank) men) = ap (λ k. drop k men) (omega arith) ∙ sym (drop-drop 8 (8 * rank) men) in
    append_assoc text (47 ∷ []) (rank_text (rank_places men rank))
    ∙ ap (λ t. t ++ 47 ∷ rank_text (rank_places men rank)) (so_far ∙ ap (λ k. before ++ join_with_byte 47
    (rank_texts k (drop (8 * above) men))) n ∙ ap (λ t. before ++ join_with_byte 47 (rank_texts (suc (7 - above)) t)) upper)
    ∙ append_assoc before (join_with_byte 47 (rank_texts (suc (7 - above)) (drop 8 (drop (8 * rank) men)))) (47 ∷ rank_text (rank_places men rank))
    ∙ ap (λ t. before ++ t) (sym (join_with_byte-rank_texts_more (7 - above) (drop (8 * rank) men))
    ∙ ap (λ k. join_with_byte 47 (rank_texts k (drop (8 * rank) men))) more)
