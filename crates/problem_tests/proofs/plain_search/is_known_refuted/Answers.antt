use Rattle.std.proofs.Common.{◌≡◌, ◌∙◌}
use Rattle.chess_moves.specs.inside.Listing.{legal_moves}
use Rattle.problem_tests.proofs.LegalMoves.{all_legal}
use Rattle.problem_tests.proofs.plain_search.is_known_refuted.Goals as goal

pub loop-r-init : goal.loop-r-init
loop-r-init c =
    let moves : c.into_iter-r-iterator.result ≡ legal_moves c.args.position.now =
    c.into_iter-r-iterator.ensures.into_iter_gives ∙ c.legal_moves-r-items.ensures.moves in
    rw moves (all_legal c.args.position.now)
