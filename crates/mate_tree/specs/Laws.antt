-- What a tree is meant to say.
use Rattle.std.specs.Prelude.{◌≡◌, ◌↔◌, ℕ, ◌-◌, List, [], ◌∷◌, true, false, Contains}
use Rattle.chess_board.specs.Positions.{Setup}
use Rattle.chess_board.specs.Moves.{Move}
use Rattle.chess_board.specs.MakeMove.{after_setup}
use Rattle.chess_moves.specs.inside.Listing.{legal_moves}
use Rattle.chess_moves.specs.Verdicts.{is_mate}
use Rattle.chess_problems.specs.declared.outcomes.Outcome.{Outcome}
use Rattle.chess_problems.specs.declared.outcomes.Outcome.TheVariants.{Mate, NoMate}
use Rattle.chess_problems.specs.Problems.{ProblemValue}
use Rattle.mate_search.specs.Wins.{win}
use Rattle.mate_search.specs.inside.Truth.{truth}
use Rattle.mate_tree.specs.Continuations.{keys_of, soonest}
use Rattle.mate_tree.specs.Tries.{is_no_mate, refutes}

-- There is none that mates soonest exactly where the attacker does not mate within the moves that are left.
abbrev pub SoonestReads : Type 0
SoonestReads = (k : ℕ) (p : Setup) → (is_no_mate (soonest k p) ≡ false) ↔ (win k p ≡ true)

-- how many moves the shortest mate takes
abbrev pub length_of : Outcome → ℕ
length_of (Mate n keys pv) = n
length_of NoMate = 0

-- A move that mates in one is a leaf: after it the defender is mated.
abbrev pub LeavesMate : Type 0
LeavesMate = (q : ProblemValue) (m : Move) → Contains (keys_of (truth q)) m → length_of (truth q) ≡ 1 → is_mate (after_setup q.position m) ≡ true

-- Below each legal reply to a move that mates soonest stands another one: no reply refutes it.
abbrev pub DefencesAnswered : Type 0
DefencesAnswered = (q : ProblemValue) (m r : Move) → Contains (keys_of (truth q)) m → Contains (legal_moves (after_setup q.position m)) r
    → refutes (length_of (truth q) - 1) (after_setup q.position m) r ≡ false

abbrev pub line_of : Outcome → List Move
line_of (Mate n keys pv) = pv.items
line_of NoMate = []

-- A line of play is a branch of the tree that begins with these keys of a mate in so many moves: it begins with one of them; the reply
-- that follows is legal, and what follows that is a branch again, of the moves that mate soonest from there, in one move less. It ends with
-- a mate in one.
abbrev pub IsBranch : List Move → ℕ → Setup → List Move → Type 0
IsBranch keys n p [] = ⊥
IsBranch keys n p (m ∷ []) = Contains keys m × (n ≡ 1)
IsBranch keys n p (m ∷ r ∷ rest) = Contains keys m × Contains (legal_moves (after_setup p m)) r
    × IsBranch (keys_of (soonest (n - 1) (after_setup (after_setup p m) r))) (n - 1) (after_setup (after_setup p m) r) rest

-- The whole line that is told is a branch of the tree.
abbrev pub LineBranches : Type 0
LineBranches = (q : ProblemValue) → is_no_mate (truth q) ≡ false → IsBranch (keys_of (truth q)) (length_of (truth q)) q.position (line_of (truth q))
