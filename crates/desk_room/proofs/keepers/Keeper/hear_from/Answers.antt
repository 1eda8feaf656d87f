use Rattle.std.proofs.Common.{arith, sym, subst, ap, length, get_or, []}
use Rattle.desk_room.specs.Keepers.{lists}
use Rattle.desk_room.specs.Events.{RoomLists}
use Rattle.desk_room.specs.Passes.{Hearing}
use Rattle.desk_room.proofs.Fewness.{untouched_same, untouched_then}
use Rattle.desk_room.proofs.Runs.{hearing_none, hearing_then}
use Rattle.desk_room.proofs.Staying.{at_receivers_then}
use Rattle.desk_room.proofs.keepers.Keeper.hear_from.Goals as goal

pub loop-init : goal.loop-init
loop-init c =
    let e = c.listen-lying.ensures in
    let k = c.args.self.now in
    record {
      heard = subst (λ (s : RoomLists). Hearing (lists k) s 0 0 0) (sym e.same) (hearing_none (lists k));
      few = omega arith;
      longer = omega (arith, ap (λ (s : RoomLists). length (get_or s.heard c.args.b [])) e.same);
      others = untouched_same c.args.b (lists k).heard _ (ap (λ (s : RoomLists). s.heard) e.same);
      known = omega (arith, e.known);
      untouched = e.untouched;
      ends = e.ends;
    }

pub loop-preserved : goal.loop-preserved
loop-preserved c =
    let i = c.loop.invariant in
    let e = c.hear_one-one.ensures in
    record {
      heard = hearing_then _ _ _ _ _ _ _ _ _ i.heard e.step;
      few = omega (arith, i.few, e.one);
      longer = omega (arith, i.longer, e.longer);
      others = untouched_then c.args.b _ _ _ i.others e.others;
      known = omega (arith, i.known, e.known);
      untouched = untouched_then c.args.b _ _ _ i.untouched e.untouched;
      ends = at_receivers_then _ _ _ i.ends e.ends;
    }
