-- The board while the squares of a rank are read onto it, from the a-file to the h-file.
use Rattle.std.proofs.Common.{◌≡◌, ℕ, suc, ◌+◌, ◌-◌, ◌*◌, ◌<◌, ◌≤◌, List, [], ◌∷◌, ◌++◌, Bool, true, false, length, refl, ap, sym}
use Rattle.std.proofs.Common.{◌∙◌, arith, Option, Some, None, replicate, length-append, append_assoc, take, drop, get_or, set}
use Rattle.std.proofs.Common.{length-drop, length-take-le, take-append-drop}
use Rattle.std.proofs.Math.Seq.{set-append_seam}
use Rattle.std.proofs.lemmas.List.{length-replicate, length-take, replicate-append-replicate, take_at, get_or_at}
use Rattle.chess_board.specs.declared.men.Man.{Man}
use Rattle.chess_board.specs.Positions.{man_at}
use Rattle.chess_board.specs.inside.RankReading.{man_of_letter, is_run_digit, with_rank, IsRankEmpty, IsRankRead}
use Rattle.chess_board.proofs.RankSteps.{IsReadSoFar, none_read, whole, run_read, man_read}

-- The squares up to a file are read, and on the rest of the rank no man stands.
pub record IsRankSoFar (board men : List (Option Man)) (rank file : ℕ) (text : List ℕ) (after_digit : Bool) (rest : List ℕ) : Type 0 where
  pub front : List (Option Man)
  pub long : length front ≡ file
  pub inside : file ≤ 8
  pub so_far : IsReadSoFar text front after_digit rest
  pub written : board ≡ with_rank men rank (front ++ replicate (8 - file) None)

pub rank_begun : (men : List (Option Man)) (rank : ℕ) (text : List ℕ) → IsRankEmpty men rank
    → IsRankSoFar men men rank 0 text false text
rank_begun men rank text empty =
    record { front = []; long = refl; inside = omega arith; so_far = none_read text; written = empty }

-- a run
pub run_put : (board men : List (Option Man)) (rank file file' : ℕ) (text : List ℕ) (after_digit : Bool) (i b : ℕ)
    → IsRankSoFar board men rank file text after_digit (drop i text) → i < length text → b ≡ get_or text i 0
    → is_run_digit b ≡ true → after_digit ≡ false → file' ≡ file + (b - 48) → file' ≤ 8
    → IsRankSoFar board men rank file' text true (drop (i + 1) text)
run_put board men rank file file' text after_digit i b h inside at is_digit first next fits = record {
  front = h.front ++ replicate (b - 48) None;
  long = rw (length-append, length-replicate) (omega (arith, h.long));
  inside = fits;
  so_far =
      let next : i + 1 ≡ suc i = omega arith in
      rw next (run_read text h.front after_digit i b h.so_far inside at is_digit first);
  written =
      let count : 8 - file ≡ (b - 48) + (8 - file') = omega arith in
      h.written
      ∙ ap (λ n. with_rank men rank (h.front ++ replicate n None)) count
      ∙ ap (λ t. with_rank men rank (h.front ++ t)) (sym (replicate-append-replicate (b - 48) (8 - file') None))
      ∙ ap (with_rank men rank) (sym (append_assoc h.front (replicate (b - 48) None) (replicate (8 - file') None)));
}

-- what stands before a square and behind it, where that is empty
split_at : (board men : List (Option Man)) (rank file : ℕ) (text : List ℕ) (after_digit : Bool) (rest : List ℕ) (h : IsRankSoFar board men rank file text after_digit rest)
    → file < 8 → board ≡ (take (8 * rank) men ++ h.front) ++ None ∷ (replicate (7 - file) None ++ drop (8 * rank + 8) men)
split_at board men rank file text after_digit rest h inside =
    let count : 8 - file ≡ suc (7 - file) = omega arith in
    h.written
    ∙ ap (λ n. with_rank men rank (h.front ++ replicate n None)) count
    ∙ ap (λ t. take (8 * rank) men ++ t) (append_assoc h.front (None ∷ replicate (7 - file) None) (drop (8 * rank + 8) men))
    ∙ sym (append_assoc (take (8 * rank) men) h.front (None ∷ (replicate (7 - file) None ++ drop (8 * rank + 8) men)))

-- a board that has a rank
long_enough : (men : List (Option Man)) (rank : ℕ) → IsRankEmpty men rank → 8 * rank ≤ length men
long_enough men rank empty =
    let rest = drop (8 * rank + 8) men in
    omega (
      arith,
      ap length empty,
      length-append (take (8 * rank) men) (replicate 8 None ++ rest),
      length-append (replicate 8 None) rest,
      length-replicate {A = Option Man} 8 None,
      length-take (8 * rank) men,
      length-drop (8 * rank + 8) men,
    )

long_front : (men front : List (Option Man)) (rank file : ℕ) → length front ≡ file → IsRankEmpty men rank
    → length (take (8 * rank) men ++ front) ≡ 8 * rank + file
long_front men front rank file long empty =
    let taken = length-take-le (8 * rank) men (long_enough men rank empty) in rw (length-append, taken, long)

pub square_free : (board men : List (Option Man)) (rank file square : ℕ) (text : List ℕ) (after_digit : Bool) (rest : List ℕ)
    → IsRankSoFar board men rank file text after_digit rest → IsRankEmpty men rank → file < 8 → square ≡ 8 * rank + file
    → man_at board square ≡ None
square_free board men rank file square text after_digit rest h empty inside here =
    ap (λ (m : List (Option Man)). man_at m square) (split_at board men rank file text after_digit rest h inside)
    ∙ get_or_at (take (8 * rank) men ++ h.front) None (replicate (7 - file) None ++ drop (8 * rank + 8) men) None square
    (long_front men h.front rank file h.long empty ∙ sym here)

-- a man
pub man_put : (board men board' : List (Option Man)) (rank file square : ℕ) (text : List ℕ) (after_digit : Bool) (i b : ℕ) (man : Man)
    → IsRankSoFar board men rank file text after_digit (drop i text) → IsRankEmpty men rank → i < length text
    → b ≡ get_or text i 0 → is_run_digit b ≡ false → man_of_letter b ≡ Some man → file < 8 → square ≡ 8 * rank + file
    → board' ≡ set board square (Some man) → IsRankSoFar board' men rank (file + 1) text false (drop (i + 1) text)
man_put board men board' rank file square text after_digit i b man h empty inside at is_digit known free here put =
    let before = take (8 * rank) men ++ h.front in
    let behind = replicate (7 - file) None ++ drop (8 * rank + 8) men in
    let count : 7 - file ≡ 8 - (file + 1) = omega arith in
    record {
      front = h.front ++ Some man ∷ [];
      long = rw length-append (omega (arith, h.long));
      inside = omega arith;
      so_far =
          let next : i + 1 ≡ suc i = omega arith in
          rw next (man_read text h.front after_digit i b man h.so_far inside at is_digit known);
      written =
          put
          ∙ ap (λ (m : List (Option Man)). set m square (Some man)) (split_at board men rank file text after_digit (drop i text) h free)
          ∙ ap (λ (s : ℕ). set (before ++ None ∷ behind) s (Some man))
          (here ∙ sym (long_front men h.front rank file h.long empty))
          ∙ set-append_seam before None behind (Some man)
          ∙ append_assoc (take (8 * rank) men) h.front (Some man ∷ behind)
          ∙ ap (λ t. take (8 * rank) men ++ t)
          (ap (λ n. h.front ++ Some man ∷ (replicate n None ++ drop (8 * rank + 8) men)) count
          ∙ sym (append_assoc h.front (Some man ∷ replicate (8 - (file + 1)) None) (drop (8 * rank + 8) men))
          ∙ ap (λ t. t ++ drop (8 * rank + 8) men) (sym (append_assoc h.front (Some man ∷ []) (replicate (8 - (file + 1)) None))));
    }

-- the whole rank
pub rank_put : (board men : List (Option Man)) (rank file : ℕ) (text : List ℕ) (after_digit : Bool) (i : ℕ)
    → IsRankSoFar board men rank file text after_digit (drop i text) → length text ≤ i → file ≡ 8 → IsRankRead board men rank text
rank_put board men rank file text after_digit i h end full = record {
  places = h.front;
  long = h.long ∙ full;
  spelt = whole text h.front after_digit i h.so_far end;
  written =
      let none : 8 - file ≡ 0 = omega arith in
      h.written ∙ ap (λ n. with_rank men rank (h.front ++ replicate n None)) none
      ∙ ap (λ t. take (8 * rank) men ++ t) (append_assoc h.front [] (drop (8 * rank + 8) men));
}

-- The ranks below those that are read are empty.

parted_empty : (above rank : ℕ) (men : List (Option Man)) → above ≡ rank + 1 → take (8 * above) men ≡ replicate (8 * above) None
    → men ≡ replicate (8 * rank) None ++ (replicate 8 None ++ drop (8 * rank + 8) men)
parted_empty above rank men next free =
    let none : ℕ → List (Option Man) = λ n. replicate n None in
    let rest = drop (8 * rank + 8) men in
    sym (take-append-drop (8 * rank + 8) men)
    ∙ ap (λ t. t ++ rest) (ap (λ n. take n men) (omega arith) ∙ free ∙ ap none (omega arith) ∙ sym (replicate-append-replicate (8 * rank) 8 None))
    ∙ append_assoc (none (8 * rank)) (none 8) rest

front_empty : (above rank : ℕ) (men : List (Option Man)) → above ≡ rank + 1 → take (8 * above) men ≡ replicate (8 * above) None
    → take (8 * rank) men ≡ replicate (8 * rank) None
front_empty above rank men next free =
    ap (take (8 * rank)) (parted_empty above rank men next free)
    ∙ take_at (replicate (8 * rank) None) (replicate 8 None ++ drop (8 * rank + 8) men) (8 * rank) (length-replicate {A = Option Man} (8 * rank) None)

pub next_empty : (above rank : ℕ) (men : List (Option Man)) → above ≡ rank + 1 → take (8 * above) men ≡ replicate (8 * above) None
    → IsRankEmpty men rank
next_empty above rank men next free =
    parted_empty above rank men next free
    ∙ ap (λ t. t ++ (replicate 8 None ++ drop (8 * rank + 8) men)) (sym (front_empty above rank men next free))

pub still_empty : (above rank : ℕ) (men board places : List (Option Man)) → above ≡ rank + 1
    → take (8 * above) men ≡ replicate (8 * above) None → board ≡ with_rank men rank places → take (8 * rank) board ≡ replicate (8 * rank) None
still_empty above rank men board places next free written =
    ap (take (8 * rank)) written
    ∙ take_at (take (8 * rank) men) (places ++ drop (8 * rank + 8) men) (8 * rank)
    (length-take-le (8 * rank) men (long_enough men rank (next_empty above rank men next free)))
    ∙ front_empty above rank men next free

pub as_long : (men board places : List (Option Man)) (rank : ℕ) → rank < 8 → length men ≡ 64 → length places ≡ 8
    → board ≡ with_rank men rank places → length board ≡ 64
as_long men board places rank on_board long eight written =
    let rest = drop (8 * rank + 8) men in
    omega (
      arith,
      ap length written,
      length-append (take (8 * rank) men) (places ++ rest),
      length-append places rest,
      length-take (8 * rank) men,
      length-drop (8 * rank + 8) men,
    )
