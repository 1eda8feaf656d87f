use Rattle.std.proofs.Common.{arith, sym, subst, ap, length, get_or, []}
use Rattle.desk_room.specs.Keepers.{lists}
use Rattle.desk_room.specs.Events.{RoomLists}
use Rattle.desk_room.specs.Passes.{Taking}
use Rattle.desk_room.proofs.Fewness.{untouched_same, untouched_then}
use Rattle.desk_room.proofs.Runs.{taking_none, taking_then}
use Rattle.desk_room.proofs.Ahead.{others_then}
use Rattle.desk_room.proofs.Staying.{at_lines_then}
use Rattle.desk_room.proofs.keepers.Keeper.take_letters.Goals as goal

pub loop-init : goal.loop-init
loop-init c =
    let e = c.look-lying.ensures in
    let k = c.args.self.now in
    record {
      took = subst (λ (s : RoomLists). Taking (lists k) s 0 0 0) (sym e.same) (taking_none (lists k));
      accepted = omega arith;
      byes = omega arith;
      withdrawn = omega arith;
      longer = omega (arith, ap (λ (s : RoomLists). length (get_or s.taken c.args.n [])) e.same);
      untouched = untouched_same c.args.n (lists k).taken _ (ap (λ (s : RoomLists). s.taken) e.same);
      known = omega (arith, e.known);
      others = e.others;
      ends = e.ends;
    }

pub loop-preserved : goal.loop-preserved
loop-preserved c =
    let i = c.loop.invariant in
    let e = c.take_one-one.ensures in
    record {
      took = taking_then _ _ _ _ _ _ _ _ _ i.took e.step;
      accepted = omega (arith, i.accepted, e.few.0);
      byes = omega (arith, i.byes, e.few.1);
      withdrawn = omega (arith, i.withdrawn, e.few.2);
      longer = omega (arith, i.longer, e.longer);
      untouched = untouched_then c.args.n _ _ _ i.untouched e.untouched;
      known = omega (arith, i.known, e.known);
      others = others_then c.args.n _ _ _ i.others e.others;
      ends = at_lines_then _ _ _ i.ends e.ends;
    }
