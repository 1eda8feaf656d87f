-- How a position is to be searched: what the words behind `go` say (UCI, April 2006). Milliseconds, moves and halfmoves are numbers.
use Rattle.std.specs.Prelude.{List, ℕ, codes}
use Rattle.uci_commands.specs.Marks.{number_behind, says}
use Rattle.uci_commands.specs.declared.go_commands.Go.{Go}

unfoldable pub go_of : List (List ℕ) → Go
go_of words = record {
  mate = number_behind (codes "mate") words;
  depth = number_behind (codes "depth") words;
  nodes = number_behind (codes "nodes") words;
  move_time = number_behind (codes "movetime") words;
  white_time = number_behind (codes "wtime") words;
  black_time = number_behind (codes "btime") words;
  white_increment = number_behind (codes "winc") words;
  black_increment = number_behind (codes "binc") words;
  moves_to_go = number_behind (codes "movestogo") words;
  infinite = says (codes "infinite") words;
  ponder = says (codes "ponder") words;
}
