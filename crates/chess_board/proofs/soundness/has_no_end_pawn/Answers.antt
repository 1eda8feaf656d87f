use Rattle.chess_board.proofs.EndPawns.{no_end_pawn}
use Rattle.chess_board.proofs.soundness.has_no_end_pawn.Goals as goal

pub returns : goal.returns
returns c = no_end_pawn c.args.men.now c.kind.result c.kind.type_inv c.kind.ensures
