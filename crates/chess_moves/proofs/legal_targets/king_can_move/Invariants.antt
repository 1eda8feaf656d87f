use Rattle.chess_moves.proofs.Sifting.{IsSifted}
use Rattle.chess_moves.proofs.KingTargets.{safe_at}
use Rattle.chess_moves.proofs.legal_targets.king_can_move.Given as goal

-- no step so far is safe
abbrev pub invariant-loop-target : goal.invariant-loop-target
invariant-loop-target l = IsSifted l.steps l.target-iterator 0 (safe_at l.info.position.now l.info.king)
