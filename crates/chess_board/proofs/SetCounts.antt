-- A set of squares has as many ones as there are squares on which what stands passes its test.
use Rattle.std.proofs.Common.{◌≡◌, ℕ, ◌+◌, ◌*◌, ◌/◌, ◌%◌, ◌^◌, ◌<◌, Bool, true, false, cond, List, [], ◌∷◌, Option, length, count_by}
use Rattle.std.proofs.Common.{refl, sym, ap, ◌∙◌, arith}
use Rattle.std.specs.Int.RustNames.{count_ones}
use Rattle.std.specs.Int.Count.{ones_step}
use Rattle.chess_board.specs.declared.men.Man.{Man}
use Rattle.chess_board.specs.Sets.{IsSetOf}
use Rattle.chess_board.specs.inside.Boards.{word_of}
use Rattle.chess_board.proofs.Counting.{count_by-cons}
use Rattle.chess_board.proofs.MenSets.{word_of-IsSetOf}

one_more : (b : Bool) (w : ℕ) → count_ones (cond b 1 0 + 2 * w) ≡ cond b 1 0 + count_ones w
one_more true w = let half : (1 + 2 * w) / 2 ≡ w = omega arith in
    ones_step (1 + 2 * w) ∙ (rw half (let odd : (1 + 2 * w) % 2 ≡ 1 = omega arith in rw odd))
one_more false w = let half : (0 + 2 * w) / 2 ≡ w = omega arith in
    ones_step (0 + 2 * w) ∙ (rw half (let even : (0 + 2 * w) % 2 ≡ 0 = omega arith in rw even))

count_ones-word_of : (test : Option Man → Bool) (men : List (Option Man)) → count_ones (word_of test men) ≡ count_by test men
unfolding word_of count_ones
count_ones-word_of test [] = refl
count_ones-word_of test (place ∷ places) = one_more (test place) (word_of test places)
    ∙ ap (λ (n : ℕ). cond (test place) 1 0 + n) (count_ones-word_of test places) ∙ sym (count_by-cons test place places)

pub count_ones-IsSetOf : (test : Option Man → Bool) (men : List (Option Man)) (set : ℕ) → length men ≡ 64 → set < 2 ^ 64
    → IsSetOf set test men → count_ones set ≡ count_by test men
count_ones-IsSetOf test men set long fits is =
    ap count_ones (sym (word_of-IsSetOf test men set long fits is)) ∙ count_ones-word_of test men
