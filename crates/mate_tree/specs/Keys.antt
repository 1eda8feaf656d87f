-- The keys, what each threatens, and the tree below each.
use Rattle.std.specs.Prelude.{ℕ, ◌-◌, List, ◌∷◌, ◌++◌, codes, Bool, if◌then◌else◌}
use Rattle.std.specs.List.{flat_map}
use Rattle.chess_board.specs.Positions.{Setup}
use Rattle.chess_board.specs.Moves.{Move}
use Rattle.chess_board.specs.MakeMove.{after_setup}
use Rattle.mate_tree.specs.Lines.{attack_text, length_text}
use Rattle.mate_tree.specs.Threats.{idea_text}
use Rattle.mate_tree.specs.Defences.{defences}
use Rattle.mate_tree.specs.Variations.{variations}

-- the line of a key of a mate in n, where d of the attacker's next moves are shown
abbrev pub key_line : ℕ → ℕ → Setup → Move → List ℕ
key_line d n p m = attack_text 1 p m ++ codes "!" ++ idea_text 2 (n - 1) (after_setup p m) ++ length_text d n

-- what stands below a key: all defences, or those that parry alone
abbrev pub below_key : Bool → ℕ → ℕ → Setup → List (List ℕ)
below_key alone d k q = if alone then variations d 1 k q else defences d 1 k q

-- a key, and the tree below it
abbrev pub lines_of_key : Bool → ℕ → ℕ → Setup → Move → List (List ℕ)
lines_of_key alone d n p m = key_line d n p m ∷ below_key alone d (n - 1) (after_setup p m)

abbrev pub key_lines : Bool → ℕ → ℕ → Setup → List Move → List (List ℕ)
key_lines alone d n p keys = flat_map (lines_of_key alone d n p) keys
