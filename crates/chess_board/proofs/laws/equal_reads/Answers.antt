use Rattle.std.proofs.Common.{refl}
use Rattle.std.proofs.lemmas.Bool.Decides.{Decides-eqb}
use Rattle.chess_board.proofs.Equality.{setup_agrees, colour_agrees, rights_agrees}
use Rattle.chess_board.proofs.SameBoards.{board_agrees}
use Rattle.chess_board.proofs.laws.equal_reads.Goals as goal

pub returns : goal.returns
returns c = λ p q at there. setup_agrees _ _ _ _ board_agrees colour_agrees rights_agrees Decides-eqb p q at.squares there.squares _ refl
