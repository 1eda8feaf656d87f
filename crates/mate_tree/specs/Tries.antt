-- Tries: first moves that one defence alone refutes.
use Rattle.std.specs.Prelude.{ℕ, List, [], ◌∷◌, ◌++◌, codes, filter, Option, Some, None, Bool, true, false, if◌then◌else◌}
use Rattle.std.specs.List.{flat_map, list_any}
use Rattle.std.specs.Option.{option_map_or}
use Rattle.chess_board.specs.Positions.{Setup}
use Rattle.chess_board.specs.Moves.{Move}
use Rattle.chess_board.specs.MakeMove.{after_setup}
use Rattle.chess_moves.specs.inside.Listing.{legal_moves}
use Rattle.chess_notation.specs.SanText.{san_text}
use Rattle.chess_problems.specs.SameProblems.{is_same_move}
use Rattle.chess_problems.specs.declared.outcomes.Outcome.{Outcome}
use Rattle.chess_problems.specs.declared.outcomes.Outcome.TheVariants.{Mate, NoMate}
use Rattle.mate_tree.specs.Layouts.{heading}
use Rattle.mate_tree.specs.Lines.{attack_text}
use Rattle.mate_tree.specs.Continuations.{soonest}
use Rattle.mate_tree.specs.SetPlay.{headed}

abbrev pub is_no_mate : Outcome → Bool
is_no_mate (Mate n keys pv) = false
is_no_mate NoMate = true

-- After this reply there is no mate within k moves.
abbrev pub refutes : ℕ → Setup → Move → Bool
refutes k q r = is_no_mate (soonest k (after_setup q r))

abbrev pub refutations : ℕ → Setup → List Move
refutations k q = filter (refutes k q) (legal_moves q)

-- the one move of a list that has one
abbrev pub sole : List Move → Option Move
sole (m ∷ []) = Some m
sole _ = None

-- the line of a try and its refutation: `1.Qh3? Kd5!`
abbrev pub try_line : Setup → Move → Move → List ℕ
try_line p m r = codes "  " ++ attack_text 1 p m ++ codes "? " ++ san_text (after_setup p m) r ++ codes "!"

-- A move that is not to be avoided is a try where exactly one reply refutes it. A key is none, since no reply refutes it.
abbrev pub try_lines : ℕ → Setup → List Move → Move → List (List ℕ)
try_lines k p avoid m =
    if list_any (is_same_move m) avoid then [] else option_map_or (λ r. try_line p m r ∷ []) (sole (refutations k (after_setup p m))) []

unfoldable pub tries : Bool → ℕ → Setup → List Move → List (List ℕ)
tries column k p avoid = headed (heading column (codes "tries")) (flat_map (try_lines k p avoid) (legal_moves p))
