use Rattle.chess_board.specs.Men.{is_of}
use Rattle.chess_board.specs.Attacks.{attacks_from}
use Rattle.chess_board.proofs.SetScans.{IsScan}
use Rattle.chess_board.proofs.attacks.is_attacked_by.Given as goal

abbrev pub invariant-loop-from : goal.invariant-loop-from
invariant-loop-from l = IsScan l.from-iterator (is_of l.by) l.men (λ a. attacks_from l.men l.by a l.square)
