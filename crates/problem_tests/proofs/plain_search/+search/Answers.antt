use Rattle.std.proofs.Common.{◌≡◌, ◌∙◌}
use Rattle.chess_moves.specs.inside.Listing.{legal_moves}
use Rattle.problem_tests.proofs.LegalMoves.{all_legal}
use Rattle.problem_tests.proofs.plain_search.+search.Goals as goal

pub wins_by_some-loop-m-init : goal.wins_by_some-loop-m-init
wins_by_some-loop-m-init t g c =
    let moves : c.into_iter-m-iterator.result ≡ legal_moves c.args.position.now =
    c.into_iter-m-iterator.ensures.into_iter_gives ∙ c.legal_moves-m-items.ensures.moves in
    rw moves (all_legal c.args.position.now)

pub loses_each-loop-r-init : goal.loses_each-loop-r-init
loses_each-loop-r-init t g c =
    let moves : c.into_iter-r-iterator.result ≡ legal_moves c.args.position.now =
    c.into_iter-r-iterator.ensures.into_iter_gives ∙ c.legal_moves-r-items.ensures.moves in
    rw moves (all_legal c.args.position.now)

pub is_refuted_by_capture-loop-r-init : goal.is_refuted_by_capture-loop-r-init
is_refuted_by_capture-loop-r-init t g c =
    let moves : c.into_iter-r-iterator.result ≡ legal_moves c.args.position.now =
    c.into_iter-r-iterator.ensures.into_iter_gives ∙ c.legal_moves-r-items.ensures.moves in
    rw moves (all_legal c.args.position.now)

pub is_refuted_by_check-loop-r-init : goal.is_refuted_by_check-loop-r-init
is_refuted_by_check-loop-r-init t g c =
    let moves : c.into_iter-r-iterator.result ≡ legal_moves c.args.position.now =
    c.into_iter-r-iterator.ensures.into_iter_gives ∙ c.legal_moves-r-items.ensures.moves in
    rw moves (all_legal c.args.position.now)

pub is_refuted_by_men-loop-r-init : goal.is_refuted_by_men-loop-r-init
is_refuted_by_men-loop-r-init t g c =
    let moves : c.into_iter-r-iterator.result ≡ legal_moves c.args.position.now =
    c.into_iter-r-iterator.ensures.into_iter_gives ∙ c.legal_moves-r-items.ensures.moves in
    rw moves (all_legal c.args.position.now)
