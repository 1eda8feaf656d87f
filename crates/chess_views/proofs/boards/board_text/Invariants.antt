use Rattle.std.proofs.Common.{◌≡◌, flat_map, take}
use Rattle.chess_views.specs.Boards.{rank_line}
use Rattle.chess_views.proofs.boards.board_text.Given as goal

abbrev pub invariant-loop-rank : goal.invariant-loop-rank
invariant-loop-rank l = l.text.items ≡ flat_map (rank_line l.from l.position.men) (take l.rank-index l.rank-items)
