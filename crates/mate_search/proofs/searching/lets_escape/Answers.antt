use Rattle.chess_board.specs.MakeMove.{after_setup}
use Rattle.mate_search.proofs.Wins.{escaped}
use Rattle.mate_search.proofs.searching.lets_escape.Goals as goal

pub returns : goal.returns
returns c = λ e. escaped c.legal_listed.ensures (after_setup c.args.position.now c.args.m) (c.leaves_escape.ensures e)
