use Rattle.std.proofs.Common.{arith, sym, ◌∙◌}
use Rattle.std.proofs.lemmas.Grind.{common_steps}
use Rattle.chess_moves.specs.inside.Listing.{legal_moves}
use Rattle.mate_search.proofs.Playing.{variation_no_key, variation_one, variation_stops, variation_more}
use Rattle.mate_search.proofs.principal_variation.+variation.Goals as goal

pub push_variation-returns-in_ok-push_next-clause-variation : goal.push_variation-returns-in_ok-push_next-clause-variation
push_variation-returns-in_ok-push_next-clause-variation t g c = λ first key.
    let e = variation_more first c.args.position.now c.args.n c.args.key c.after-q.result c.in-Some.r c.after.result
    (omega arith) key c.after-q.ensures (sym c.in-Some.is ∙ c.in_ok-r.ensures.reply) c.after.ensures in
    rw e (grind (arith, common_steps))

pub push_variation-returns-in_default-clause-variation : goal.push_variation-returns-in_default-clause-variation
push_variation-returns-in_default-clause-variation t g c = λ first key.
    let e = variation_stops first c.args.position.now c.args.n c.args.key c.after-q.result (omega arith)
    key c.after-q.ensures (sym c.in_default.is ∙ c.in_ok-r.ensures.reply) in
    rw e (grind (arith, common_steps))

pub push_variation-returns-else-n-gt1-clause-variation : goal.push_variation-returns-else-n-gt1-clause-variation
push_variation-returns-else-n-gt1-clause-variation t g c = λ first key.
    let e = variation_one first c.args.position.now c.args.n c.args.key (omega arith) key in rw e (grind (arith, common_steps))

pub push_next-returns-in-None-clause-variation : goal.push_next-returns-in-None-clause-variation
push_next-returns-in-None-clause-variation t g c = let e = variation_no_key (legal_moves c.args.position.now) c.args.position.now c.args.n
    (sym c.in-None.is ∙ c.in_ok-m.ensures.key) in rw e (grind (arith, common_steps))
