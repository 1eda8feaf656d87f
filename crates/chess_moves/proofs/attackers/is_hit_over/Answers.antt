use Rattle.std.proofs.Common.{arith, ◌∙◌}
use Rattle.square_sets.specs.Members.{has}
use Rattle.chess_moves.specs.inside.Hits.{hits_from, is_hit}
use Rattle.chess_moves.proofs.AnyLemmas.{any_same}
use Rattle.chess_moves.proofs.SharedSquares.{nonzero}
use Rattle.chess_moves.proofs.attackers.is_hit_over.Goals as goal

pub returns : goal.returns
unfolding is_hit
returns c = λ men stands sets.
    nonzero c.attackers.result (omega arith)
    ∙ any_same (has c.attackers.result) (λ a. hits_from men c.args.by a c.args.square) 64 (λ s l. c.attackers.ensures men stands sets s l)
