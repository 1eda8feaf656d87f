-- Reading a rank, as a function on lists, and that it undoes `rank_text`.
use Rattle.std.proofs.Common.{◌≡◌, ℕ, zero, suc, ◌+◌, ◌-◌, ◌<◌, ◌≤◌, List, [], ◌∷◌, ◌++◌, Bool, true, false, length}
use Rattle.std.proofs.Common.{refl, ap, sym, ◌∙◌, arith, Option, Some, None, replicate, if◌then◌else◌}
use Rattle.std.proofs.lemmas.List.{append-nil}
use Rattle.chess_board.specs.declared.men.Man.{Man}
use Rattle.chess_board.specs.Placement.{man_letter, run_text, rank_text_after, rank_text}
use Rattle.chess_board.specs.inside.RankReading.{man_of_letter, is_run_digit}
use Rattle.chess_board.proofs.RankLetters.{man_of_letter-man_letter, is_run_digit-man_letter, man_spelt, run_spelt, is_run_digit-digit}

-- a man in front of what is read after it
abbrev pub with_man : Option Man → Option (List (Option Man)) → Option (List (Option Man))
with_man None rest = None
with_man (Some man) None = None
with_man (Some man) (Some places) = Some (Some man ∷ places)

-- empty squares in front of what is read after them
abbrev pub with_run : ℕ → Option (List (Option Man)) → Option (List (Option Man))
with_run n None = None
with_run n (Some places) = Some (replicate n None ++ places)

-- The squares that a text spells, or none. The flag says that a digit stands before the text.
abbrev pub rank_read : Bool → List ℕ → Option (List (Option Man))
rank_read after_digit [] = Some []
rank_read after_digit (b ∷ bs) =
    if is_run_digit b then (if after_digit then None else with_run (b - 48) (rank_read true bs)) else with_man (man_of_letter b) (rank_read false bs)

-- empty squares in front of a rank lengthen its first run
run_on : (n k : ℕ) (places : List (Option Man)) → rank_text_after n (replicate k None ++ places) ≡ rank_text_after (n + k) places
run_on n zero places = ap (λ m. rank_text_after m places) (omega arith)
run_on n (suc k) places = run_on (suc n) k places ∙ ap (λ m. rank_text_after m places) (omega arith)

with_run_some : (k : ℕ) (r : Option (List (Option Man))) (places : List (Option Man)) → with_run k r ≡ Some places
    → (rest : List (Option Man)) × (r ≡ Some rest) × (replicate k None ++ rest ≡ places)
with_run_some k None places e = cc
with_run_some k (Some rest) places e = (rest, refl, cc)

with_man_some : (o : Option Man) (r : Option (List (Option Man))) (places : List (Option Man)) → with_man o r ≡ Some places
    → (man : Man) × (rest : List (Option Man)) × (o ≡ Some man) × (r ≡ Some rest) × (Some man ∷ rest ≡ places)
with_man_some None r places e = cc
with_man_some (Some man) None places e = cc
with_man_some (Some man) (Some rest) places e = (man, rest, refl, refl, cc)

spelt_step : (is_digit after_digit : Bool) (n b : ℕ) (bs : List ℕ) (places : List (Option Man))
    → is_run_digit b ≡ is_digit → (after_digit ≡ false → n ≡ 0)
    → ((m : ℕ) (rest : List (Option Man)) → rank_read true bs ≡ Some rest → rank_text_after m rest ≡ run_text m ++ bs)
    → ((rest : List (Option Man)) → rank_read false bs ≡ Some rest → rank_text_after 0 rest ≡ bs)
    → (if is_digit then (if after_digit then None else with_run (b - 48) (rank_read true bs))
    else with_man (man_of_letter b) (rank_read false bs)) ≡ Some places
    → rank_text_after n places ≡ run_text n ++ b ∷ bs
spelt_step true true n b bs places d start after_run after_man e = cc
spelt_step true false n b bs places d start after_run after_man e =
    let w = with_run_some (b - 48) (rank_read true bs) places e in
    let none : n ≡ 0 = start refl in
    rw (none, ← w.2) (run_on 0 (b - 48) w.0 ∙ ap (λ m. rank_text_after m w.0) (omega arith)
    ∙ after_run (b - 48) w.0 w.1 ∙ ap (λ t. t ++ bs) (run_spelt b d))
spelt_step false after_digit n b bs places d start after_run after_man e =
    let w = with_man_some (man_of_letter b) (rank_read false bs) places e in
    let letter : man_letter w.0 ≡ b = man_spelt b w.0 w.2 in
    let rest : rank_text_after 0 w.1 ≡ bs = after_man w.1 w.3 in
    rw (← w.4) (ap (λ t. run_text n ++ man_letter w.0 ∷ t) rest ∙ ap (λ l. run_text n ++ l ∷ bs) letter)

-- A run may stand before what is read only where the text does not begin with a digit.
read_spelt : (after_digit : Bool) (n : ℕ) (bs : List ℕ) (places : List (Option Man)) → (after_digit ≡ false → n ≡ 0)
    → rank_read after_digit bs ≡ Some places → rank_text_after n places ≡ run_text n ++ bs
read_spelt after_digit n [] places start e = let nil : [] ≡ places = cc in rw (← nil) (sym (append-nil (run_text n)))
read_spelt after_digit n (b ∷ bs) places start e =
    spelt_step (is_run_digit b) after_digit n b bs places refl start
    (λ m rest f. read_spelt true m bs rest (λ t. cc) f) (λ rest f. read_spelt false 0 bs rest (λ _. refl) f) e

-- What is read is what the text spells.
pub read_exactly : (bs : List ℕ) (places : List (Option Man)) → rank_read false bs ≡ Some places → rank_text places ≡ bs
read_exactly bs places e = read_spelt false 0 bs places (λ _. refl) e

digit_read : (n : ℕ) (bs : List ℕ) → 0 < n → n ≤ 8 → rank_read false ((48 + n) ∷ bs) ≡ with_run n (rank_read true bs)
digit_read n bs positive short =
    let count : (48 + n) - 48 ≡ n = omega arith in
    rw (is_run_digit-digit n positive short, count) refl

man_read : (after_digit : Bool) (man : Man) (bs : List ℕ) → rank_read after_digit (man_letter man ∷ bs) ≡ with_man (Some man) (rank_read false bs)
man_read after_digit man bs = rw (is_run_digit-man_letter man, man_of_letter-man_letter man) refl

replicate_front : (n : ℕ) (places : List (Option Man)) → replicate (suc n) None ++ places ≡ replicate n None ++ None ∷ places
replicate_front zero places = refl
replicate_front (suc n) places = ap (λ t. None ∷ t) (replicate_front n places)

rank_read-rank_text_after : (n : ℕ) (places : List (Option Man)) → n + length places ≤ 8
    → rank_read false (rank_text_after n places) ≡ Some (replicate n None ++ places)
rank_read-rank_text_after zero [] short = refl
rank_read-rank_text_after (suc n) [] short = digit_read (suc n) [] (omega arith) (omega arith)
rank_read-rank_text_after n (None ∷ places) short = rank_read-rank_text_after (suc n) places (omega arith) ∙ ap Some (replicate_front n places)
rank_read-rank_text_after zero ((Some man) ∷ places) short =
    man_read false man (rank_text_after 0 places) ∙ ap (with_man (Some man)) (rank_read-rank_text_after 0 places (omega arith))
rank_read-rank_text_after (suc n) ((Some man) ∷ places) short =
    digit_read (suc n) (man_letter man ∷ rank_text_after 0 places) (omega arith) (omega arith)
    ∙ ap (with_run (suc n)) (man_read true man (rank_text_after 0 places)
    ∙ ap (with_man (Some man)) (rank_read-rank_text_after 0 places (omega arith)))

-- What a text spells is read from it.
pub spelt_read : (bs : List ℕ) (places : List (Option Man)) → length places ≡ 8 → rank_text places ≡ bs → rank_read false bs ≡ Some places
spelt_read bs places long e = ap (rank_read false) (sym e) ∙ rank_read-rank_text_after 0 places (omega arith)

-- Two ranks never have the same text.
pub rank_once : (places places' : List (Option Man)) → length places ≡ 8 → length places' ≡ 8
    → rank_text places ≡ rank_text places' → places ≡ places'
rank_once places places' long long' same =
    let read : rank_read false (rank_text places) ≡ Some places = spelt_read (rank_text places) places long refl in
    let read' : rank_read false (rank_text places) ≡ Some places' = spelt_read (rank_text places) places' long' (sym same) in
    cc
