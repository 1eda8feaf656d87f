-- What the attacker threatens.
use Rattle.std.specs.Prelude.{ℕ, List, [], ◌++◌, codes}
use Rattle.std.specs.Option.{option_map_or}
use Rattle.chess_board.specs.Positions.{Setup}
use Rattle.chess_problems.specs.declared.outcomes.Outcome.{Outcome}
use Rattle.chess_problems.specs.declared.outcomes.Outcome.TheVariants.{Mate, NoMate}
use Rattle.mate_tree.specs.Lines.{attack_words}
use Rattle.mate_tree.specs.Passing.{passed}
use Rattle.mate_tree.specs.Continuations.{soonest}

-- the moves that would mate soonest, or that there is no mate
abbrev pub threat_text : ℕ → Setup → Outcome → List ℕ
threat_text i p (Mate n keys pv) = codes " threat" ++ attack_words i p keys.items
threat_text i p NoMate = codes " zugzwang"

-- what the attacker's i-th move threatens to be, with k moves left, were the defender to pass: nothing is said where it is in check
abbrev pub idea_text : ℕ → ℕ → Setup → List ℕ
idea_text i k q = option_map_or (λ p. threat_text i p (soonest k p)) (passed q) []
