-- Set play: what the attacker has ready, were the defender to move first.
use Rattle.std.specs.Prelude.{ℕ, List, [], ◌∷◌, ◌++◌, codes, Bool}
use Rattle.std.specs.List.{flat_map}
use Rattle.std.specs.Option.{option_map_or}
use Rattle.chess_board.specs.Positions.{Setup}
use Rattle.chess_board.specs.Moves.{Move}
use Rattle.chess_board.specs.MakeMove.{after_setup}
use Rattle.chess_moves.specs.inside.Listing.{legal_moves}
use Rattle.chess_problems.specs.declared.outcomes.Outcome.{Outcome}
use Rattle.chess_problems.specs.declared.outcomes.Outcome.TheVariants.{Mate, NoMate}
use Rattle.mate_tree.specs.Layouts.{heading}
use Rattle.mate_tree.specs.Lines.{defence_text, attack_words}
use Rattle.mate_tree.specs.Passing.{passed}
use Rattle.mate_tree.specs.Continuations.{soonest}

-- Lines below their name, which stands only where there is a line.
abbrev pub headed : List ℕ → List (List ℕ) → List (List ℕ)
headed name [] = []
headed name (l ∷ ls) = name ∷ l ∷ ls

-- a defender's move with all that mate soonest behind it, or no line where there is no mate
abbrev pub set_line : Setup → Move → Outcome → List (List ℕ)
set_line q r (Mate n keys pv) = (codes "  " ++ defence_text 1 q r ++ attack_words 2 (after_setup q r) keys.items) ∷ []
set_line q r NoMate = []

abbrev pub set_line_within : ℕ → Setup → Move → List (List ℕ)
set_line_within k q r = set_line q r (soonest k (after_setup q r))

-- each of the defender's moves after which there is a mate within k moves
abbrev pub set_lines : ℕ → Setup → List (List ℕ)
set_lines k q = flat_map (set_line_within k q) (legal_moves q)

-- the attacker passes, where it is not in check
unfoldable pub set_play : Bool → ℕ → Setup → List (List ℕ)
set_play column k p = option_map_or (λ q. headed (heading column (codes "set play")) (set_lines k q)) (passed p) []
