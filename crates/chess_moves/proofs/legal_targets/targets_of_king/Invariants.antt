use Rattle.chess_moves.proofs.Sifting.{IsSifted}
use Rattle.chess_moves.proofs.KingTargets.{safe_at}
use Rattle.chess_moves.proofs.legal_targets.targets_of_king.Given as goal

abbrev pub invariant-loop-target : goal.invariant-loop-target
invariant-loop-target l = IsSifted l.steps l.target-iterator l.safe (safe_at l.info.position.now l.info.king)
