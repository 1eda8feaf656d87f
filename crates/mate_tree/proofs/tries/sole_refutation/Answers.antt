use Rattle.std.proofs.Common.{◌∙◌, filter, sym, ap}
use Rattle.mate_tree.specs.Continuations.{soonest}
use Rattle.mate_tree.specs.Tries.{is_no_mate, refutes, sole}
use Rattle.mate_tree.proofs.LegalMoves.{legal_item}
use Rattle.mate_tree.proofs.SoleMoves.{first_found, none_found, two_found}
use Rattle.mate_tree.proofs.tries.sole_refutation.Goals.{then-is_no_mate+else-is_some, else-is_no_mate}
use Rattle.mate_tree.proofs.tries.sole_refutation.Goals as goal

pub returns-then-is_some-clause-sole : goal.returns-then-is_some-clause-sole
returns-then-is_some-clause-sole c =
    let asked = ap is_no_mate (sym (c.soonest-outcome.ensures.truth ∙ ap (soonest c.args.left) c.after.ensures))
    ∙ sym c.is_no_mate.ensures ∙ c.if-is_no_mate.true in
    let all = c.as_slice-r-items.ensures.value ∙ c.legal-replies.ensures in
    sym (two_found (refutes c.args.left c.args.position.now) c.as_slice-r-items.result.now c.loop-r.r-index c.r-item.result
    c.loop-r.found c.loop-r-test.true c.r-item.is
    (sym c.is_some.ensures ∙ c.if-is_some.true) c.loop-r.invariant.found asked)
    ∙ ap (λ rs. sole (filter (refutes c.args.left c.args.position.now) rs)) all

pub loop-r-preserved : goal.loop-r-preserved
loop-r-preserved c =
    let f = refutes c.args.left c.args.position.now in
    let rs = c.as_slice-r-items.result.now in
    let all = c.as_slice-r-items.ensures.value ∙ c.legal-replies.ensures in
    let asked = ap is_no_mate (sym (c.soonest-outcome.ensures.truth ∙ ap (soonest c.args.left) c.after.ensures)) ∙ sym c.is_no_mate.ensures in
    let legal = legal_item c.legal_listed.ensures c.args.position.now rs c.loop-r.r-index c.r-item.result c.loop-r-test.true c.r-item.is all in
    let room = c.soonest-outcome.ensures.room ∙ c.loop-r.invariant.room in
    elim c.if-is_no_mate.branch [
      | then-is_no_mate+else-is_some w ↦ rw w.found-is (record {
        found = first_found f rs c.loop-r.r-index c.r-item.result c.loop-r.found c.loop-r-test.true c.r-item.is
            (sym w.is_some.ensures ∙ w.if-is_some.false) c.loop-r.invariant.found
            (asked ∙ w.if-is_no_mate.true);
        legal = legal;
        room = room;
      })
      | else-is_no_mate w ↦ rw w.found-is (record {
        found = none_found f rs c.loop-r.r-index c.r-item.result c.loop-r.found c.loop-r-test.true c.r-item.is
            c.loop-r.invariant.found (asked ∙ w.if-is_no_mate.false);
        legal = c.loop-r.invariant.legal;
        room = room;
      })
    ]
