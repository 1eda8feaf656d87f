use Rattle.std.proofs.Common.{◌≡◌, refl, ◌∙◌}
use Rattle.chess_moves.specs.inside.Listing.{legal_moves}
use Rattle.mate_search.proofs.Wins.{all_legal}
use Rattle.mate_search.proofs.principal_variation.longest_defence.Goals as goal

pub loop-r-init : goal.loop-r-init
loop-r-init g c =
    let moves : c.into_iter-r-iterator.result ≡ legal_moves c.args.position.now =
    c.into_iter-r-iterator.ensures.into_iter_gives ∙ c.legal_moves-r-items.ensures.moves in
    record { found = rw moves refl; legal = rw moves (all_legal c.args.position.now); room = refl }
