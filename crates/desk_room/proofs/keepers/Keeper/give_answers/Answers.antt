use Rattle.std.proofs.Common.{arith, ◌∙◌, refl}
use Rattle.desk_room.specs.Keepers.{lists}
use Rattle.desk_room.proofs.Fewness.{untouched_same, untouched_then}
use Rattle.desk_room.proofs.Runs.{giving_none, giving_then}
use Rattle.desk_room.proofs.Served.{served_same, served_then}
use Rattle.desk_room.proofs.Staying.{at_lines_same, at_lines_then}
use Rattle.desk_room.proofs.keepers.Keeper.give_answers.Goals as goal

pub loop-given-init : goal.loop-given-init
loop-given-init c =
    let k = c.args.self.now in
    record {
      gave = giving_none (lists k);
      fewer = omega (arith, c.pending-pending.ensures.pending);
      longer = omega arith;
      untouched = untouched_same c.args.n (lists k).put (lists k).put refl;
      others = served_same c.args.n k;
      known = refl;
      ends = at_lines_same k;
    }

pub loop-given-preserved : goal.loop-given-preserved
loop-given-preserved c =
    let i = c.loop-given.invariant in
    let e = c.give_one.ensures in
    let gave = c.if-not-give_one.false in
    record {
      gave = giving_then _ _ _ _ _ i.gave (rw gave at e.step);
      fewer = omega (arith, i.fewer, e.fewer gave);
      longer = omega (arith, i.longer, rw gave at e.longer);
      untouched = untouched_then c.args.n _ _ _ i.untouched e.untouched;
      others = served_then c.args.n _ _ _ i.others e.others;
      known = e.known ∙ i.known;
      ends = at_lines_then _ _ _ i.ends e.ends;
    }
