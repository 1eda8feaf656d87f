-- Texts and counts of squares, one square more.
use Rattle.std.proofs.Common.{◌≡◌, ◌∙◌, ℕ, suc, ◌+◌, List, [], ◌++◌, Option, ap, append-nil, append_assoc, refl, sym, arith}
use Rattle.std.specs.Prelude.{cond}
use Rattle.chess_board.specs.declared.men.Colour.{Colour}
use Rattle.chess_board.specs.declared.men.Man.{Man}
use Rattle.chess_board.specs.Men.{is_of}
use Rattle.chess_board.specs.Positions.{man_at}
use Rattle.problem_sheets.specs.Diagrams.{each_below}
use Rattle.problem_sheets.specs.Problems.{men_below}

pub each_below_none : (text : ℕ → List ℕ) → each_below 0 text ≡ []
unfolding each_below
each_below_none text = refl

pub each_below_more : (n : ℕ) (text : ℕ → List ℕ) → each_below (n + 1) text ≡ each_below n text ++ text n
unfolding each_below
each_below_more n text = let next : n + 1 ≡ suc n = omega arith in rw next refl

pub squares_none : (old : List ℕ) (text : ℕ → List ℕ) → old ≡ old ++ each_below 0 text
squares_none old text = sym (ap (λ t. old ++ t) (each_below_none text) ∙ append-nil old)

pub squares_more : (old before after : List ℕ) (n : ℕ) (text : ℕ → List ℕ) → before ≡ old ++ each_below n text → after ≡ before ++ text n
    → after ≡ old ++ each_below (n + 1) text
squares_more old before after n text first next =
    next ∙ ap (λ t. t ++ text n) first ∙ append_assoc old (each_below n text) (text n) ∙ ap (λ t. old ++ t) (sym (each_below_more n text))

pub men_below_none : (colour : Colour) (men : List (Option Man)) → men_below 0 colour men ≡ 0
unfolding men_below
men_below_none colour men = refl

pub men_below_more : (n : ℕ) (colour : Colour) (men : List (Option Man))
    → men_below (n + 1) colour men ≡ men_below n colour men + cond (is_of colour (man_at men n)) 1 0
unfolding men_below
men_below_more n colour men = let next : n + 1 ≡ suc n = omega arith in rw next refl
