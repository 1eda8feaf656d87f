-- The moves that a search is kept to, and the problem that it asks then.
use Rattle.std.specs.Prelude.{ℕ, List, filter, not}
use Rattle.std.specs.List.{list_any}
use Rattle.chess_board.specs.Positions.{Setup}
use Rattle.chess_board.specs.Moves.{Move, move_text}
use Rattle.chess_moves.specs.inside.Listing.{legal_moves}
use Rattle.chess_problems.specs.SameProblems.{is_same_move}
use Rattle.uci_commands.specs.Marks.{says}

-- the legal moves whose coordinates are among the words, in the order of moves
unfoldable pub moves_said : Setup → List (List ℕ) → List Move
moves_said p words = filter (λ m. says (move_text m) words) (legal_moves p)

-- how many moves a problem can avoid
abbrev pub max_avoided : ℕ
max_avoided = 341

-- the legal moves that are none of these
unfoldable pub all_but : Setup → List Move → List Move
all_but p moves = filter (λ m. not (list_any (is_same_move m) moves)) (legal_moves p)
