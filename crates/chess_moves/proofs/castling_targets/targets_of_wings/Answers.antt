use Rattle.chess_moves.proofs.SetParts.{joined}
use Rattle.chess_moves.proofs.castling_targets.targets_of_wings.Goals as goal

pub returns : goal.returns
returns c = λ t l. joined c.castling_target.result c.castling_target-2.result t _ _ (c.castling_target.ensures.targets t l) (c.castling_target-2.ensures.targets t l)
