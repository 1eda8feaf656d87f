-- Problems and solutions added in turn, one for each problem.
use Rattle.std.proofs.Common.{◌≡◌, ◌∙◌, ℕ, ◌+◌, ◌<◌, Bool, List, ◌∷◌, ◌++◌, length, drop, get_or, ap, append_assoc, sym}
use Rattle.std.proofs.lemmas.List.{drop_more}
use Rattle.mate_tree.specs.declared.forms.Pieces.{Pieces}
use Rattle.problem_sheets.specs.Problems.{PageProblemValue, problem_text, problems_from, stipulation}
use Rattle.problem_sheets.specs.Solutions.{solution_text, solutions_from}

module _ (before after whole : List ℕ) (i : ℕ) (problems : List PageProblemValue) (p : PageProblemValue) where
  left_at : i < length problems → p ≡ get_or problems i p → drop i problems ≡ p ∷ drop (i + 1) problems
  left_at inside is = drop_more problems i p inside ∙ ap (λ x. x ∷ drop (i + 1) problems) (sym is)

  pub problems_more : (solved : Bool) → i < length problems → p ≡ get_or problems i p
      → before ++ problems_from solved (i + 1) (drop i problems) ≡ whole
      → after ≡ before ++ problem_text (i + 1) (stipulation solved p) p.asked
      → after ++ problems_from solved (i + 1 + 1) (drop (i + 1) problems) ≡ whole
  unfolding problems_from
  problems_more solved inside is first next =
      let rest = problems_from solved (i + 1 + 1) (drop (i + 1) problems) in
      ap (λ t. t ++ rest) next ∙ append_assoc before (problem_text (i + 1) (stipulation solved p) p.asked) rest
      ∙ ap (λ left. before ++ problems_from solved (i + 1) left) (sym (left_at inside is)) ∙ first

  pub solutions_more : (pieces : Pieces) → i < length problems → p ≡ get_or problems i p
      → before ++ solutions_from pieces (i + 1) (drop i problems) ≡ whole
      → after ≡ before ++ solution_text pieces (i + 1) p → after ++ solutions_from pieces (i + 1 + 1) (drop (i + 1) problems) ≡ whole
  unfolding solutions_from
  solutions_more pieces inside is first next =
      let rest = solutions_from pieces (i + 1 + 1) (drop (i + 1) problems) in
      ap (λ t. t ++ rest) next ∙ append_assoc before (solution_text pieces (i + 1) p) rest
      ∙ ap (λ left. before ++ solutions_from pieces (i + 1) left) (sym (left_at inside is)) ∙ first
