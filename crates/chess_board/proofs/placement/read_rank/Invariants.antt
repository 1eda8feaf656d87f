use Rattle.std.proofs.Common.{drop}
use Rattle.chess_board.proofs.RankBoards.{IsRankSoFar}
use Rattle.chess_board.proofs.placement.read_rank.Given as goal

abbrev pub invariant-loop-byte : goal.invariant-loop-byte
invariant-loop-byte l = IsRankSoFar l.men l.initial.men l.rank l.file l.text l.after_digit (drop l.byte-index l.text)
