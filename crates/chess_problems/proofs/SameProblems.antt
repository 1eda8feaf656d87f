-- Problems that agree in all their parts.
use Rattle.std.proofs.Common.{◌≡◌, ◌==◌, Bool, true, false, ◌&&◌, List, [], ◌∷◌, refl, sym, ◌∙◌, ap, arith}
use Rattle.std.proofs.lemmas.Bool.Decides.{nat_tests}
use Rattle.chess_board.specs.Laws.{are_equal, EqualReads}
use Rattle.chess_problems.specs.Problems.{ProblemValue}
use Rattle.chess_board.specs.Moves.{Move}
use Rattle.chess_problems.specs.SameProblems.{is_same_move}
use Rattle.chess_problems.specs.SameProblems.{are_same_moves, is_same_problem, SameProblemReads}
use Rattle.chess_problems.proofs.SameMoves.{same_move_is, same_move_self}

and_tells : (a b : Bool) → (a && b) ≡ true → (a ≡ true) × (b ≡ true)
and_tells true b e = (refl, e)
and_tells false b e = cc

and_holds : (a b : Bool) → a ≡ true → b ≡ true → (a && b) ≡ true
and_holds a b e f = rw (e, f) refl

same_list_is : (ms ns : List Move) → are_same_moves ms ns ≡ true → ms ≡ ns
same_list_is [] [] e = refl
same_list_is [] (n ∷ ns) e = cc
same_list_is (m ∷ ms) [] e = cc
same_list_is (m ∷ ms) (n ∷ ns) e =
    let both = and_tells (is_same_move m n) (are_same_moves ms ns) e in
    ap (λ x. x ∷ ms) (same_move_is m n both.0) ∙ ap (λ xs. n ∷ xs) (same_list_is ms ns both.1)

same_list_self : (ms : List Move) → are_same_moves ms ms ≡ true
same_list_self [] = refl
same_list_self (m ∷ ms) = and_holds (is_same_move m m) (are_same_moves ms ms) (same_move_self m) (same_list_self ms)

same_parts : (p q : ProblemValue) → p.position ≡ q.position → p.bound ≡ q.bound → p.avoid ≡ q.avoid → p ≡ q
same_parts p q e f g = λ i. record { position = e i; bound = f i; avoid = g i }

pub same_reads : EqualReads → SameProblemReads
unfolding is_same_problem
same_reads law p q ps qs = (
  (λ e.
      let both = and_tells (are_equal p.position q.position && (p.bound == q.bound)) (are_same_moves p.avoid q.avoid) e in
      let parts = and_tells (are_equal p.position q.position) (p.bound == q.bound) both.0 in
      same_parts p q ((law p.position q.position ps qs).0 parts.0) (grind (arith, nat_tests, parts.1)) (same_list_is p.avoid q.avoid both.1)),
  (λ e.
      let bound : (p.bound == q.bound) ≡ true = grind (arith, nat_tests, ap (λ (r : ProblemValue). r.bound) e) in
      let avoid : are_same_moves p.avoid q.avoid ≡ true =
      ap (λ (r : ProblemValue). are_same_moves p.avoid r.avoid) (sym e) ∙ same_list_self p.avoid in
      and_holds _ _ (and_holds _ _ ((law p.position q.position ps qs).1 (ap (λ (r : ProblemValue). r.position) e)) bound) avoid),
)
