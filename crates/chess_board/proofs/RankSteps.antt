-- The loop that reads a rank: what it keeps, and why it may stop where it does.
use Rattle.std.proofs.Common.{◌≡◌, ◌≢◌, ℕ, suc, ◌+◌, ◌-◌, ◌<◌, ◌≤◌, List, [], ◌∷◌, ◌++◌, Bool, true, false, length, refl, ap, sym}
use Rattle.std.proofs.Common.{◌∙◌, arith, Option, Some, None, replicate, length-append, append_assoc, drop, drop-cons, get_or}
use Rattle.std.proofs.lemmas.List.{append-nil, length-replicate, drop_all}
use Rattle.chess_board.specs.declared.men.Man.{Man}
use Rattle.chess_board.specs.Placement.{rank_text}
use Rattle.chess_board.specs.inside.RankReading.{man_of_letter, is_run_digit}
use Rattle.chess_board.proofs.RankReading.{with_man, with_run, rank_read, read_exactly, spelt_read}

-- squares in front of what is read after them
abbrev pub with_front : List (Option Man) → Option (List (Option Man)) → Option (List (Option Man))
with_front front None = None
with_front front (Some places) = Some (front ++ places)

-- What was read so far and what is left make the whole.
abbrev pub IsReadSoFar : List ℕ → List (Option Man) → Bool → List ℕ → Type 0
IsReadSoFar text front after_digit rest = with_front front (rank_read after_digit rest) ≡ rank_read false text

pub none_read : (text : List ℕ) → IsReadSoFar text [] false text
none_read text = same (rank_read false text)
  where
    same : (read : Option (List (Option Man))) → with_front [] read ≡ read
    same None = refl
    same (Some places) = refl

-- No rank is spelt so.
abbrev pub IsNoRank : List ℕ → Type 0
IsNoRank text = (places : List (Option Man)) → length places ≡ 8 → rank_text places ≡ text → ⊥

refused : (text : List ℕ) → rank_read false text ≡ None → IsNoRank text
refused text none places long e = let read = spelt_read text places long e in cc

fits_whole : (front places : List (Option Man)) (rest : Option (List (Option Man)))
    → with_front front rest ≡ Some places → length front ≤ length places
fits_whole front places None e = cc
fits_whole front places (Some more) e = let same : front ++ more ≡ places = cc in rw (← same) (omega (arith, length-append front more))

too_long : (text : List ℕ) (front : List (Option Man)) (rest : Option (List (Option Man)))
    → with_front front rest ≡ rank_read false text → 8 < length front → IsNoRank text
too_long text front rest is over places long e =
    let fits : length front ≤ length places = fits_whole front places rest (is ∙ spelt_read text places long e) in omega arith

-- the invariant, with the next byte in front of what is left
next_is : (text : List ℕ) (front : List (Option Man)) (after_digit : Bool) (i b : ℕ) → IsReadSoFar text front after_digit
    (drop i text) → i < length text → b ≡ get_or text i 0 → IsReadSoFar text front after_digit (b ∷ drop (suc i) text)
next_is text front after_digit i b so_far inside at =
    ap (λ t. with_front front (rank_read after_digit t)) (ap (λ x. x ∷ drop (suc i) text) at ∙ sym (drop-cons text i 0 inside)) ∙ so_far

pub two_runs : (text : List ℕ) (front : List (Option Man)) (after_digit : Bool) (i b : ℕ) → IsReadSoFar text front after_digit
    (drop i text) → i < length text → b ≡ get_or text i 0 → is_run_digit b ≡ true → after_digit ≡ true → IsNoRank text
two_runs text front after_digit i b so_far inside at is_digit second =
    let fails : with_front front (rank_read after_digit (b ∷ drop (suc i) text)) ≡ None = rw (is_digit, second) refl in
    refused text (sym (next_is text front after_digit i b so_far inside at) ∙ fails)

with_run_front : (front : List (Option Man)) (k : ℕ) (r : Option (List (Option Man)))
    → with_front front (with_run k r) ≡ with_front (front ++ replicate k None) r
with_run_front front k None = refl
with_run_front front k (Some places) = ap Some (sym (append_assoc front (replicate k None) places))

pub run_read : (text : List ℕ) (front : List (Option Man)) (after_digit : Bool) (i b : ℕ)
    → IsReadSoFar text front after_digit (drop i text) → i < length text → b ≡ get_or text i 0 → is_run_digit b ≡ true
    → after_digit ≡ false → IsReadSoFar text (front ++ replicate (b - 48) None) true (drop (suc i) text)
run_read text front after_digit i b so_far inside at is_digit first =
    let rest = rank_read true (drop (suc i) text) in
    let goes : with_front front (rank_read after_digit (b ∷ drop (suc i) text)) ≡ with_front front (with_run (b - 48) rest) =
    rw (is_digit, first) refl in
    sym (with_run_front front (b - 48) rest) ∙ sym goes ∙ next_is text front after_digit i b so_far inside at

pub long_run : (text : List ℕ) (front : List (Option Man)) (after_digit : Bool) (i b : ℕ)
    → IsReadSoFar text front after_digit (drop i text) → i < length text → b ≡ get_or text i 0 → is_run_digit b ≡ true
    → after_digit ≡ false → 8 < length front + (b - 48) → IsNoRank text
long_run text front after_digit i b so_far inside at is_digit first over =
    let total : 8 < length (front ++ replicate (b - 48) None) = rw (length-append, length-replicate) over in
    too_long text (front ++ replicate (b - 48) None) (rank_read true (drop (suc i) text))
    (run_read text front after_digit i b so_far inside at is_digit first) total

pub no_man : (text : List ℕ) (front : List (Option Man)) (after_digit : Bool) (i b : ℕ) → IsReadSoFar text front after_digit
    (drop i text) → i < length text → b ≡ get_or text i 0 → is_run_digit b ≡ false → man_of_letter b ≡ None → IsNoRank text
no_man text front after_digit i b so_far inside at is_digit unknown =
    let fails : with_front front (rank_read after_digit (b ∷ drop (suc i) text)) ≡ None = rw (is_digit, unknown) refl in
    refused text (sym (next_is text front after_digit i b so_far inside at) ∙ fails)

with_man_front : (front : List (Option Man)) (man : Man) (r : Option (List (Option Man)))
    → with_front front (with_man (Some man) r) ≡ with_front (front ++ Some man ∷ []) r
with_man_front front man None = refl
with_man_front front man (Some places) = ap Some (sym (append_assoc front (Some man ∷ []) places))

pub man_read : (text : List ℕ) (front : List (Option Man)) (after_digit : Bool) (i b : ℕ) (man : Man)
    → IsReadSoFar text front after_digit (drop i text) → i < length text → b ≡ get_or text i 0 → is_run_digit b ≡ false
    → man_of_letter b ≡ Some man → IsReadSoFar text (front ++ Some man ∷ []) false (drop (suc i) text)
man_read text front after_digit i b man so_far inside at is_digit known =
    let rest = rank_read false (drop (suc i) text) in
    let goes : with_front front (rank_read after_digit (b ∷ drop (suc i) text)) ≡ with_front front (with_man (Some man) rest) =
    rw (is_digit, known) refl in
    sym (with_man_front front man rest) ∙ sym goes ∙ next_is text front after_digit i b so_far inside at

pub one_too_many : (text : List ℕ) (front : List (Option Man)) (after_digit : Bool) (i b : ℕ) (man : Man)
    → IsReadSoFar text front after_digit (drop i text) → i < length text → b ≡ get_or text i 0 → is_run_digit b ≡ false
    → man_of_letter b ≡ Some man → length front ≡ 8 → IsNoRank text
one_too_many text front after_digit i b man so_far inside at is_digit known full =
    let total : 8 < length (front ++ Some man ∷ []) = rw length-append (omega arith) in
    too_long text (front ++ Some man ∷ []) (rank_read false (drop (suc i) text))
    (man_read text front after_digit i b man so_far inside at is_digit known) total

all_read : (text : List ℕ) (front : List (Option Man)) (after_digit : Bool) (i : ℕ)
    → IsReadSoFar text front after_digit (drop i text) → length text ≤ i → rank_read false text ≡ Some front
all_read text front after_digit i so_far end =
    let last : with_front front (rank_read after_digit []) ≡ rank_read false text =
    ap (λ t. with_front front (rank_read after_digit t)) (sym (drop_all i text end)) ∙ so_far in
    sym last ∙ ap Some (append-nil front)

pub whole : (text : List ℕ) (front : List (Option Man)) (after_digit : Bool) (i : ℕ)
    → IsReadSoFar text front after_digit (drop i text) → length text ≤ i → rank_text front ≡ text
whole text front after_digit i so_far end = read_exactly text front (all_read text front after_digit i so_far end)

pub too_short : (text : List ℕ) (front : List (Option Man)) (after_digit : Bool) (i : ℕ)
    → IsReadSoFar text front after_digit (drop i text) → length text ≤ i → length front ≢ 8 → IsNoRank text
too_short text front after_digit i so_far end other places long e =
    let same : Some front ≡ Some places = sym (all_read text front after_digit i so_far end) ∙ spelt_read text places long e in
    let front_is : front ≡ places = cc in
    other (ap length front_is ∙ long)
