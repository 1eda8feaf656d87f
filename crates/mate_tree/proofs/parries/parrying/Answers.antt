use Rattle.std.proofs.Common.{◌≡◌, not, sym, ap, ◌∙◌, arith, subst, filter}
use Rattle.std.proofs.lemmas.List.{take_all}
use Rattle.arrayvec.specs.ArrayVec.{array_vec_len}
use Rattle.chess_board.specs.MakeMove.{after_setup}
use Rattle.chess_problems.specs.Outcomes.{AreLegal}
use Rattle.mate_tree.specs.Parries.{is_met, parries, parrying}
use Rattle.mate_tree.proofs.LegalReplies.{kept_more, left_out, parrying_legal}
use Rattle.mate_tree.proofs.parries.parrying.Goals.{then-not-is_met, else-not-is_met}
use Rattle.mate_tree.proofs.parries.parrying.Goals as goal

pub loop-r-preserved : goal.loop-r-preserved
loop-r-preserved c =
    let k = c.args.left in
    let q = c.args.position.now in
    let told : not c.is_met.result ≡ parries k q c.r-item.result =
    ap not (c.is_met.ensures.met ∙ ap (λ p. is_met k c.as_slice.result.now p) c.after.ensures
    ∙ ap (λ ts. is_met k ts (after_setup q c.r-item.result)) (c.as_slice.ensures.value ∙ c.threats-threats.ensures.list)) in
    elim c.if-not-is_met.branch [
      | then-not-is_met w ↦ record {
        kept = kept_more (parries k q) c.as_slice-r-items.result.now c.loop-r.r-index c.r-item.result c.loop-r.found.items
            c.if-not-is_met.found.items c.loop-r-test.true c.r-item.is (sym told ∙ ap not w.if-not-is_met.true)
            c.loop-r.invariant.kept (ap (λ o. o.items) w.found-is ∙ w.push.ensures.items);
        few = omega (arith, ap array_vec_len w.found-is, w.push.ensures.len, c.loop-r.invariant.few);
        room = c.is_met.ensures.room ∙ c.loop-r.invariant.room;
      }
      | else-not-is_met w ↦ record {
        kept = ap (λ o. o.items) w.found-is ∙ left_out (parries k q) c.as_slice-r-items.result.now c.loop-r.r-index
            c.r-item.result c.loop-r.found.items c.loop-r-test.true c.r-item.is (sym told ∙ ap not w.if-not-is_met.false) c.loop-r.invariant.kept;
        few = omega (arith, ap array_vec_len w.found-is, c.loop-r.invariant.few);
        room = c.is_met.ensures.room ∙ c.loop-r.invariant.room;
      }
    ]

pub returns-clause-legal : goal.returns-clause-legal
unfolding parrying
returns-clause-legal c =
    let k = c.args.left in
    let q = c.args.position.now in
    let all = c.loop-r.invariant.kept ∙ ap (filter (parries k q)) (take_all c.loop-r.r-index c.as_slice-r-items.result.now c.loop-r-test.false
    ∙ c.as_slice-r-items.ensures.value ∙ c.legal-replies.ensures) in
    subst (AreLegal q) (sym all) (parrying_legal k q)
