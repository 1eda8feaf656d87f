use Rattle.chess_board.specs.declared.men.Kind.TheVariants.{King}
use Rattle.chess_board.specs.Men.{is_man, other_side}
use Rattle.chess_board.specs.Attacks.{is_attacked}
use Rattle.chess_board.proofs.SetScans.{IsScan}
use Rattle.chess_board.proofs.attacks.is_king_in_check.Given as goal

abbrev pub invariant-loop-square : goal.invariant-loop-square
invariant-loop-square l = IsScan l.square-iterator (is_man l.colour King) l.men (λ s. is_attacked l.men s (other_side l.colour))
