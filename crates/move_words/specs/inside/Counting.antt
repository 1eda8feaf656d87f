-- Not for believing: how many moves fit is counted. No contract of a public call rests on it.
use Rattle.std.specs.Prelude.{List, [], ◌∷◌}
use Rattle.chess_board.specs.Moves.{Move}
use Rattle.move_words.specs.declared.naming.Named.{Named}
use Rattle.move_words.specs.declared.naming.Named.TheVariants.{One, No, Several}

abbrev pub with_move : Named → Move → Named
with_move No m = One m
with_move (One n) m = Several
with_move Several m = Several

-- what is named where these fit, too
abbrev pub with_moves : Named → List Move → Named
with_moves named [] = named
with_moves named (m ∷ ms) = with_moves (with_move named m) ms
