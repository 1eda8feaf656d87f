-- What follows from the definition of the placement field: it tells boards apart, and no space stands in it.
use Rattle.std.proofs.Common.{◌≡◌, ◌≢◌, ℕ, zero, suc, ◌*◌, List, [], ◌∷◌, ◌++◌, false, length, ap, ap₂, sym, ◌∙◌, arith}
use Rattle.std.proofs.Common.{Option, take, drop, get_or, ◌==◌, length-drop, length-take-le, take-append-drop}
use Rattle.std.specs.List.{All, join_with_byte, slice_split}
use Rattle.std.proofs.lemmas.List.{same_from_push, nil_from_length}
use Rattle.std.proofs.lemmas.List.Elements.{All-nil, All-cons, All-append}
use Rattle.chess_board.specs.declared.men.Man.{Man}
use Rattle.chess_board.specs.Placement.{rank_text, placement_text}
use Rattle.chess_board.proofs.TextParts.{eqb-false}
use Rattle.chess_board.proofs.RankReading.{rank_once}
use Rattle.chess_board.proofs.RankTexts.{rank_texts, rank_texts_lack, placement_text-rank_texts, slice_split-placement_text}

ranks_once : (n : ℕ) (men men' : List (Option Man)) → length men ≡ 8 * n → length men' ≡ 8 * n → rank_texts n men ≡ rank_texts n men' → men ≡ men'
ranks_once zero men men' long long' same = nil_from_length men (omega arith) ∙ sym (nil_from_length men' (omega arith))
ranks_once (suc n) men men' long long' same =
    let parts = same_from_push (rank_texts n (drop 8 men)) (rank_texts n (drop 8 men')) (rank_text (take 8 men)) (rank_text (take 8 men')) same in
    let upper : drop 8 men ≡ drop 8 men' =
    ranks_once n (drop 8 men) (drop 8 men') (rw length-drop (omega arith)) (rw length-drop (omega arith)) parts.0 in
    let lower : take 8 men ≡ take 8 men' =
    rank_once (take 8 men) (take 8 men') (length-take-le 8 men (omega arith)) (length-take-le 8 men' (omega arith)) parts.1 in
    sym (take-append-drop 8 men) ∙ ap₂ (λ (a b : List (Option Man)). a ++ b) lower upper ∙ take-append-drop 8 men'

-- Two boards never have the same placement field.
pub placement_once : (men men' : List (Option Man)) → length men ≡ 64 → length men' ≡ 64 → placement_text men ≡ placement_text men' → men ≡ men'
placement_once men men' long long' same =
    ranks_once 8 men men' (omega arith) (omega arith)
    (sym (slice_split-placement_text men) ∙ ap (slice_split (λ b. b == 47)) same ∙ slice_split-placement_text men')

joined_lack : (byte c : ℕ) → c ≢ byte → (parts : List (List ℕ)) → All (λ part. All (λ b. b ≢ byte) part) parts
    → All (λ b. b ≢ byte) (join_with_byte c parts)
joined_lack byte c other [] lack = All-nil (λ b. b ≢ byte)
joined_lack byte c other (part ∷ []) lack = lack 0 [] (omega arith)
joined_lack byte c other (part ∷ next ∷ parts) lack =
    All-append (λ b. b ≢ byte) part (c ∷ join_with_byte c (next ∷ parts)) (lack 0 [] (omega arith))
    (All-cons (λ b. b ≢ byte) c (join_with_byte c (next ∷ parts)) other
    (joined_lack byte c other (next ∷ parts) (λ k d inside. lack (suc k) d (omega arith))))

-- No space stands in a placement field.
pub placement_has_no_space : (men : List (Option Man)) → All (λ b. (b == 32) ≡ false) (placement_text men)
placement_has_no_space men k d inside =
    let lacks : All (λ b. b ≢ 32) (placement_text men) = rw (placement_text-rank_texts men)
    (joined_lack 32 47 (λ same. omega arith) (rank_texts 8 men) (rank_texts_lack 32 (omega arith) 8 men)) in
    eqb-false (get_or (placement_text men) k d) 32 (lacks k d inside)
