use Rattle.std.proofs.Common.{◌∙◌}
use Rattle.chess_board.specs.Positions.{man_at}
use Rattle.chess_moves.proofs.SideSets.{kinds_all}
use Rattle.chess_moves.proofs.AttackSets.{five}
use Rattle.chess_moves.proofs.side_men.all_of.Goals as goal

pub returns : goal.returns
returns c = λ men by sets s l.
    five c.args.side_men.now.pawns c.args.side_men.now.knights c.args.side_men.now.diagonal c.args.side_men.now.straight c.args.side_men.now.king s _ _ _ _ _
    (sets.pawns s l) (sets.knights s l) (sets.diagonal s l) (sets.straight s l) (sets.king s l)
    ∙ kinds_all by (man_at men s)
