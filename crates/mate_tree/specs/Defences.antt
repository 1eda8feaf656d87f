-- The tree below a move of the attacker's: each defence, and below it how the attacker goes on.
use Rattle.std.specs.Prelude.{ℕ, zero, suc, ◌+◌, ◌-◌, List, [], ◌∷◌}
use Rattle.std.specs.List.{flat_map}
use Rattle.chess_board.specs.Positions.{Setup}
use Rattle.chess_board.specs.Moves.{Move}
use Rattle.chess_board.specs.MakeMove.{after_setup}
use Rattle.chess_moves.specs.inside.Listing.{legal_moves}
use Rattle.chess_problems.specs.declared.outcomes.Outcome.{Outcome}
use Rattle.chess_problems.specs.declared.outcomes.Outcome.TheVariants.{Mate, NoMate}
use Rattle.mate_tree.specs.Lines.{attack_line, defence_line}
use Rattle.mate_tree.specs.Continuations.{soonest, has_dual}

-- a move of the attacker's, the i-th, with which it mates in n moves: its line, and below it what stands there by the moves that are
-- left and the position after it
abbrev pub attack : (ℕ → Setup → List (List ℕ)) → ℕ → ℕ → ℕ → Setup → Move → List (List ℕ)
attack below d i n p m = attack_line d i n p m ∷ below (n - 1) (after_setup p m)

abbrev pub attacks : (ℕ → Setup → List (List ℕ)) → ℕ → ℕ → ℕ → Setup → List Move → List (List ℕ)
attacks below d i n p ms = flat_map (attack below d i n p) ms

-- all that mate soonest
abbrev pub continuations : (ℕ → Setup → List (List ℕ)) → ℕ → ℕ → Setup → Outcome → List (List ℕ)
continuations below d i p (Mate n keys pv) = attacks below d i n p keys.items
continuations below d i p NoMate = []

-- one defence, the i-th, with k moves left to the attacker: its line, and below it the attacker's moves that mate soonest
abbrev pub defence : (ℕ → Setup → List (List ℕ)) → ℕ → ℕ → ℕ → Setup → Move → List (List ℕ)
defence below d i k q r =
    defence_line i q r (has_dual (soonest k (after_setup q r))) ∷ continuations below d (i + 1) (after_setup q r) (soonest k (after_setup q r))

-- all defences in move order, where d of the attacker's next moves are shown: none where no move is
unfoldable pub defences : ℕ → ℕ → ℕ → Setup → List (List ℕ)
defences zero i k q = []
defences (suc d) i k q = flat_map (defence (defences d (i + 1)) d i k q) (legal_moves q)
