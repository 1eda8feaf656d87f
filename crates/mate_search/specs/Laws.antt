-- What the definitions of this crate are meant to say.
use Rattle.std.specs.Prelude.{◌≡◌, ◌↔◌, ◌⊎◌, ℕ, ◌+◌, ◌*◌, ◌<◌, ◌≤◌, true, false, List, [], ◌∷◌, length, Contains}
use Rattle.chess_board.specs.Positions.{Setup}
use Rattle.chess_board.specs.Moves.{Move}
use Rattle.chess_board.specs.MakeMove.{after_setup}
use Rattle.chess_moves.specs.inside.Listing.{legal_moves}
use Rattle.chess_moves.specs.Verdicts.{is_mate}
use Rattle.chess_moves.specs.Laws.{IsRising}
use Rattle.chess_problems.specs.declared.outcomes.Outcome.{Outcome}
use Rattle.chess_problems.specs.declared.outcomes.Outcome.TheVariants.{Mate, NoMate}
use Rattle.mate_search.specs.Wins.{win, lost}
use Rattle.mate_search.specs.PrincipalVariation.{IsKey, IsPrincipalVariation}
use Rattle.chess_problems.specs.Problems.{ProblemValue}
use Rattle.chess_problems.specs.Outcomes.{IsPlayable}
use Rattle.mate_search.specs.inside.Truth.{truth}

-- There is no mate within 0. One within n + 1 moves is a legal move that leaves the defender lost with n more.
abbrev pub WinReads : Type 0
WinReads = (n : ℕ) (p : Setup) → (win 0 p ≡ false) × ((win (n + 1) p ≡ true) ↔
    ((m : Move) × Contains (legal_moves p) m × (lost n (after_setup p m) ≡ true)))

-- The defender is lost where it is mated, or where it has a legal move, the attacker has at least one more, and the attacker
-- mates within these after each reply.
abbrev pub LostReads : Type 0
LostReads = (k : ℕ) (q : Setup) → (lost k q ≡ true) ↔ ((is_mate q ≡ true) ⊎
    ((1 ≤ k) × ((r : Move) × Contains (legal_moves q) r) × ((r : Move) → Contains (legal_moves q) r → win k (after_setup q r) ≡ true)))

-- A mate within n moves is one within n + 1.
abbrev pub WinGrows : Type 0
WinGrows = (n : ℕ) (p : Setup) → win n p ≡ true → win (n + 1) p ≡ true

-- the keys of a mate within n moves, each once: they rise in the order of moves
abbrev pub AreKeys : List Move → Setup → ℕ → List Move → Type 0
AreKeys first p n found = ((m : Move) → Contains found m ↔ IsKey first p n m) × IsRising found

-- No mate within fewer than n moves begins with one of these.
abbrev pub HaveNoKeyBelow : List Move → Setup → ℕ → Type 0
HaveNoKeyBelow first p n = (k : ℕ) → 1 ≤ k → k < n → (m : Move) → ¬ IsKey first p k m

-- A mate is told with the least number of moves within which there is one that begins with one of these, at most the bound, with
-- its keys and its line of play. That there is none is told where there is none within the bound.
abbrev pub IsTold : List Move → Setup → ℕ → Outcome → Type 0
IsTold first p b (Mate n found pv) =
    (1 ≤ n) × (n ≤ b) × HaveNoKeyBelow first p n × AreKeys first p n found.items × IsPrincipalVariation first p n pv.items
IsTold first p b NoMate = HaveNoKeyBelow first p (b + 1)

-- The attacker may begin with the legal moves that are not to be avoided, in the order of moves.
abbrev pub AreFirstMoves : ProblemValue → List Move → Type 0
AreFirstMoves q first = ((m : Move) → Contains first m ↔ (Contains (legal_moves q.position) m × ¬ (Contains q.avoid m))) × IsRising first

-- This is told of a problem.
abbrev pub TruthReads : Type 0
TruthReads = (q : ProblemValue) → (first : List Move) × AreFirstMoves q first × IsTold first q.position q.bound (truth q)

-- What is told of a problem can be played in its position.
abbrev pub TruthPlayable : Type 0
TruthPlayable = (q : ProblemValue) → IsPlayable q.position (truth q)

-- the position that a line leads to
abbrev pub after_line : Setup → List Move → Setup
after_line p [] = p
after_line p (m ∷ ms) = after_line (after_setup p m) ms

-- The line that is told of a mate in n has n moves of the attacker and n - 1 replies, and mates at its end.
abbrev pub HasMatingLine : Setup → Outcome → Type 0
HasMatingLine p (Mate n found pv) = (length pv.items + 1 ≡ 2 * n) × (is_mate (after_line p pv.items) ≡ true)
HasMatingLine p NoMate = Unit {0}

abbrev pub LineMates : Type 0
LineMates = (q : ProblemValue) → HasMatingLine q.position (truth q)
