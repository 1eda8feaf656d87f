use Rattle.std.proofs.Common.{◌≡◌, refl, ◌∙◌}
use Rattle.chess_moves.specs.inside.Listing.{legal_moves}
use Rattle.mate_search.proofs.Wins.{all_legal}
use Rattle.mate_search.proofs.principal_variation.least_of_all.Goals as goal

pub loop-m-init : goal.loop-m-init
loop-m-init g c =
    let moves : c.into_iter-m-iterator.result ≡ legal_moves c.args.position.now =
    c.into_iter-m-iterator.ensures.into_iter_gives ∙ c.legal_moves-m-items.ensures.moves in
    record { found = rw moves refl; legal = rw moves (all_legal c.args.position.now); room = refl }
