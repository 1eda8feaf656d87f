-- The loop that reads a placement field from the eighth rank down: what it keeps, and why it may stop where it does.
use Rattle.std.proofs.Common.{◌≡◌, ℕ, suc, ◌+◌, ◌-◌, ◌*◌, ◌<◌, ◌≤◌, List, [], ◌∷◌, ◌++◌, length, ap, sym, ◌∙◌, arith}
use Rattle.std.proofs.Common.{Option, take, drop, get_or, ◌==◌, length-append, length-take-le, append_assoc}
use Rattle.std.specs.List.{slice_split, join_with_byte}
use Rattle.std.proofs.lemmas.List.{get_or_at, drop_at}
use Rattle.std.proofs.lemmas.List.Splits.{join_with_byte-slice_split}
use Rattle.chess_board.specs.declared.men.Man.{Man}
use Rattle.chess_board.specs.Placement.{rank_text, placement_text, SpellsPlacement}
use Rattle.chess_board.proofs.TextParts.{slice_split_one, slice_split_whole}
use Rattle.chess_board.proofs.RankTexts.{rank_text_above, rank_texts, length-rank_texts, rank_texts_more}
use Rattle.chess_board.proofs.RankTexts.{rank_at, placement_text-rank_texts, slice_split-placement_text}
use Rattle.chess_board.proofs.RankSteps.{IsNoRank}

-- the parts of a text between its slashes
abbrev pub parts : List ℕ → List (List ℕ)
parts text = slice_split (λ b. b == 47) text

-- The first parts spell the men from this rank on upwards, and what is left has the other parts.
abbrev pub IsReadDownTo : ℕ → List ℕ → List (Option Man) → List ℕ → Type 0
IsReadDownTo rank text men rest = parts text ≡ rank_texts (8 - rank) (drop (8 * rank) men) ++ parts rest

-- No board is spelt so.
abbrev pub IsNoPlacement : List ℕ → Type 0
IsNoPlacement text = (men : List (Option Man)) → SpellsPlacement text men → ⊥

-- the parts of a placement field
parts_spelt : (text : List ℕ) (men : List (Option Man)) → SpellsPlacement text men → parts text ≡ rank_texts 8 men
parts_spelt text men spelt = ap parts spelt.1 ∙ slice_split-placement_text men

-- The last part comes too early.
pub few_ranks : (rank : ℕ) (text : List ℕ) (men : List (Option Man)) (rest : List ℕ) → IsReadDownTo rank text men rest → 1 < rank
    → parts rest ≡ rest ∷ [] → IsNoPlacement text
few_ranks rank text men rest so_far left last board spelt =
    let upper = rank_texts (8 - rank) (drop (8 * rank) men) in
    let all : rank_texts 8 board ≡ upper ++ rest ∷ [] = sym (parts_spelt text board spelt) ∙ so_far ∙ ap (λ t. upper ++ t) last in
    absurd (omega (
      arith,
      ap length all,
      length-rank_texts 8 board,
      length-append upper (rest ∷ []),
      length-rank_texts (8 - rank) (drop (8 * rank) men),
    ))

-- A part among the first eight spells no rank.
pub bad_rank : (rank : ℕ) (text : List ℕ) (men : List (Option Man)) (rest front : List ℕ) (more : List (List ℕ))
    → IsReadDownTo rank text men rest → 0 < rank → rank ≤ 8 → parts rest ≡ front ∷ more → IsNoRank front → IsNoPlacement text
bad_rank rank text men rest front more so_far left top next bad board spelt =
    let upper = rank_texts (8 - rank) (drop (8 * rank) men) in
    let all : rank_texts 8 board ≡ upper ++ front ∷ more = sym (parts_spelt text board spelt) ∙ so_far ∙ ap (λ t. upper ++ t) next in
    let w = rank_at 8 board (8 - rank) (omega (arith, spelt.0)) (omega arith) in
    bad w.0 w.1 (w.2 ∙ ap (λ t. get_or t (8 - rank) []) all
    ∙ get_or_at upper front more [] (8 - rank) (length-rank_texts (8 - rank) (drop (8 * rank) men)))

-- What is left after seven ranks spells none.
pub bad_last_rank : (text : List ℕ) (men : List (Option Man)) (rest : List ℕ) → IsReadDownTo 1 text men rest → IsNoRank rest → IsNoPlacement text
bad_last_rank text men rest so_far bad board spelt =
    let all : rank_texts 8 board ≡ rank_texts 7 (drop 8 men) ++ parts rest = sym (parts_spelt text board spelt) ∙ so_far in
    let one : length (parts rest) ≡ 1 = omega (
      arith,
      ap length all,
      length-rank_texts 8 board,
      length-append (rank_texts 7 (drop 8 men)) (parts rest),
      length-rank_texts 7 (drop 8 men),
    ) in
    bad_rank 1 text men rest rest [] so_far (omega arith) (omega arith) (slice_split_one 47 rest one) bad board spelt

-- the men with one more rank below those that were read
with_rank : (above rank : ℕ) (men places men' : List (Option Man)) → above ≡ rank + 1 → above ≤ 8 → length men ≡ 64
    → men' ≡ take (8 * rank) men ++ (places ++ drop (8 * rank + 8) men)
    → drop (8 * rank) men' ≡ places ++ drop (8 * above) men
with_rank above rank men places men' next inside long written =
    ap (drop (8 * rank)) written
    ∙ drop_at (take (8 * rank) men) (places ++ drop (8 * rank + 8) men) (8 * rank) (length-take-le (8 * rank) men (omega arith))
    ∙ ap (λ n. places ++ drop n men) (omega arith)

-- One more rank is read.
pub one_more_rank : (above rank : ℕ) (text : List ℕ) (men : List (Option Man)) (rest front back : List ℕ)
    (places men' : List (Option Man)) → above ≡ rank + 1 → above ≤ 8 → length men ≡ 64
    → IsReadDownTo above text men rest → parts rest ≡ front ∷ parts back → (length places ≡ 8) × (rank_text places ≡ front)
    → men' ≡ take (8 * rank) men ++ (places ++ drop (8 * rank + 8) men) → IsReadDownTo rank text men' back
one_more_rank above rank text men rest front back places men' next inside long so_far cut read written =
    let upper = drop (8 * above) men in
    let count : suc (8 - above) ≡ 8 - rank = omega arith in
    so_far
    ∙ ap (λ t. rank_texts (8 - above) upper ++ t) (cut ∙ ap (λ t. t ∷ parts back) (sym read.1))
    ∙ sym (append_assoc (rank_texts (8 - above) upper) (rank_text places ∷ []) (parts back))
    ∙ ap (λ t. t ++ parts back)
    (sym (rank_texts_more (8 - above) places upper read.0)
    ∙ ap (λ n. rank_texts n (places ++ upper)) count
    ∙ ap (rank_texts (8 - rank)) (sym (with_rank above rank men places men' next inside long written)))

-- All eight ranks are read.
pub all_ranks : (text : List ℕ) (men : List (Option Man)) (rest : List ℕ) (places men' : List (Option Man))
    → IsReadDownTo 1 text men rest → (length places ≡ 8) × (rank_text places ≡ rest)
    → men' ≡ places ++ drop 8 men → text ≡ placement_text men'
all_ranks text men rest places men' so_far read written =
    let lacks = λ (k d : ℕ) (inside : k < length rest) (same : get_or rest k d ≡ 47).
    let above : 48 < get_or rest k d = (rw read.1 at (rank_text_above 0 places)) k d inside in absurd (omega arith) in
    let whole : parts text ≡ rank_texts 8 (places ++ drop 8 men) =
    so_far ∙ ap (λ t. rank_texts 7 (drop 8 men) ++ t) (slice_split_whole 47 rest lacks ∙ ap (λ t. t ∷ []) (sym read.1))
    ∙ sym (rank_texts_more 7 places (drop 8 men) read.0) in
    sym (join_with_byte-slice_split 47 text) ∙ ap (join_with_byte 47) whole
    ∙ sym (placement_text-rank_texts (places ++ drop 8 men)) ∙ ap placement_text (sym written)
