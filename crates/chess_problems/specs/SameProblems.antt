-- When two moves, two lists of moves and two problems are one.
use Rattle.std.specs.Prelude.{◌≡◌, ◌↔◌, ◌==◌, Bool, true, false, ◌&&◌, List, [], ◌∷◌}
use Rattle.chess_board.specs.Soundness.{IsSound}
use Rattle.chess_board.specs.Laws.{are_equal}
use Rattle.chess_board.specs.Moves.{Move, promotion_place}
use Rattle.chess_problems.specs.Problems.{ProblemValue}

-- Two moves agree in origin, target and promotion.
abbrev pub is_same_move : Move → Move → Bool
is_same_move m n = (m.origin == n.origin) && (m.target == n.target) && (promotion_place m.promotion == promotion_place n.promotion)

abbrev pub are_same_moves : List Move → List Move → Bool
are_same_moves [] [] = true
are_same_moves (m ∷ ms) (n ∷ ns) = is_same_move m n && are_same_moves ms ns
are_same_moves _ _ = false

-- Two problems agree in all their parts.
unfoldable pub is_same_problem : ProblemValue → ProblemValue → Bool
is_same_problem p q = are_equal p.position q.position && (p.bound == q.bound) && are_same_moves p.avoid q.avoid

-- Moves agree exactly where they are one.
abbrev pub SameMoveReads : Type 0
SameMoveReads = (m n : Move) → (is_same_move m n ≡ true) ↔ (m ≡ n)

-- Problems of sound positions agree exactly where they are one.
abbrev pub SameProblemReads : Type 0
SameProblemReads = (p q : ProblemValue) → IsSound p.position → IsSound q.position → (is_same_problem p q ≡ true) ↔ (p ≡ q)
