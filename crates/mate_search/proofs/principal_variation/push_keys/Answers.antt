use Rattle.std.proofs.Common.{◌-◌, filter, sym, ap, ◌∙◌, arith}
use Rattle.std.proofs.lemmas.List.{take_all}
use Rattle.arrayvec.specs.ArrayVec.{array_vec_len}
use Rattle.mate_search.specs.Wins.{leaves_lost}
use Rattle.mate_search.proofs.Searches.{kept_more, left_out}
use Rattle.mate_search.proofs.principal_variation.push_keys.Goals.{then-branch, else-branch}
use Rattle.mate_search.proofs.principal_variation.push_keys.Goals as goal

pub loop-m-preserved : goal.loop-m-preserved
loop-m-preserved g c =
    let leaves = leaves_lost (c.args.n - 1) c.args.root.now.position.now in
    elim c.if-branch.branch [
      | then-branch w ↦ record {
        kept = kept_more leaves c.args.root.now.first.now c.loop-m.m-index c.m-item.result c.loop-m.out.items c.if-branch.out.items
            c.loop-m-test.true c.m-item.is (sym c.in_ok-judge.ensures.found ∙ w.if-branch.true) c.loop-m.invariant.kept
            (ap (λ o. o.items) w.out-is ∙ w.push.ensures.items);
        few = omega (arith, ap array_vec_len w.out-is, w.push.ensures.len, c.loop-m.invariant.few);
        room = c.judge.ensures.ends.room ∙ c.loop-m.invariant.room;
      }
      | else-branch w ↦ record {
        kept = ap (λ o. o.items) w.out-is ∙ left_out leaves c.args.root.now.first.now c.loop-m.m-index c.m-item.result c.loop-m.out.items
            c.loop-m-test.true c.m-item.is (sym c.in_ok-judge.ensures.found ∙ w.if-branch.false) c.loop-m.invariant.kept;
        few = omega (arith, ap array_vec_len w.out-is, c.loop-m.invariant.few);
        room = c.judge.ensures.ends.room ∙ c.loop-m.invariant.room;
      }
    ]

pub returns-clause-keys : goal.returns-clause-keys
returns-clause-keys g c = c.loop-m.invariant.kept
    ∙ ap (filter (leaves_lost (c.args.n - 1) c.args.root.now.position.now)) (take_all c.loop-m.m-index c.args.root.now.first.now c.loop-m-test.false)
