use Rattle.std.proofs.Common.{◌≡◌, refl, ◌∙◌}
use Rattle.chess_moves.specs.inside.Listing.{legal_moves}
use Rattle.mate_search.proofs.Wins.{all_legal, refuted_by_next}
use Rattle.mate_search.proofs.searching.is_known_refuted.Goals as goal

pub loop-r-init : goal.loop-r-init
loop-r-init c =
    let moves : c.into_iter-r-iterator.result ≡ legal_moves c.args.position.now =
    c.into_iter-r-iterator.ensures.into_iter_gives ∙ c.legal_moves-r-items.ensures.moves in
    record { all = rw moves (λ e. e); some = rw moves (λ e. e); legal = rw moves (all_legal c.args.position.now); room = refl }

pub returns-then-is_known_to_refute-clause-refuted : goal.returns-then-is_known_to_refute-clause-refuted
returns-then-is_known_to_refute-clause-refuted c = λ _.
    refuted_by_next c.args.k c.args.position.now c.loop-r.r-iterator c.next.new.self c.in-Some.r c.in-Some.ensures.steps
    c.loop-r.invariant.all c.loop-r.invariant.some (c.is_known_to_refute.ensures.refutes c.if-is_known_to_refute.true)
