-- How a position stands: whether it ends the game by mate (FIDE Laws of Chess, article 5.1.1) or by stalemate (article 5.2.1).
use Rattle.std.specs.Prelude.{Bool, length, ◌&&◌, not, nat_lt, if◌then◌else◌, List, filter}
use Rattle.chess_board.specs.Positions.{Setup}
use Rattle.chess_board.specs.Attacks.{is_in_check}
use Rattle.chess_board.specs.MakeMove.{after_setup}
use Rattle.chess_board.specs.Moves.{Move}
use Rattle.chess_moves.specs.declared.verdicts.Verdict.{Verdict}
use Rattle.chess_moves.specs.declared.verdicts.Verdict.TheVariants.{Play, Mate, Stalemate}
use Rattle.std.specs.List.{list_any}
use Rattle.chess_moves.specs.inside.Listing.{legal_moves}

-- The side to move has a legal move.
abbrev pub has_legal_move : Setup → Bool
has_legal_move p = nat_lt 0 (length (legal_moves p))

-- The king of the side to move is attacked, and no move is legal.
abbrev pub is_mate : Setup → Bool
is_mate p = is_in_check p.men p.side && not (has_legal_move p)

-- The king of the side to move is not attacked, and no move is legal.
abbrev pub is_stalemate : Setup → Bool
is_stalemate p = not (is_in_check p.men p.side) && not (has_legal_move p)

abbrev pub verdict_of : Setup → Verdict
verdict_of p = if is_mate p then Mate else (if is_stalemate p then Stalemate else Play)

-- Some legal move mates.
unfoldable pub has_mating_move : Setup → Bool
has_mating_move p = list_any (λ m. is_mate (after_setup p m)) (legal_moves p)

-- the legal moves that mate
unfoldable pub mating_moves : Setup → List Move
mating_moves p = filter (λ m. is_mate (after_setup p m)) (legal_moves p)
