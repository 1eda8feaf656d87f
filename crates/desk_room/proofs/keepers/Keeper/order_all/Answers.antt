use Rattle.std.proofs.Common.{arith, ◌∙◌}
use Rattle.desk_room.specs.Keepers.{lists}
use Rattle.desk_room.proofs.Runs.{ordering_none, ordering_then}
use Rattle.desk_room.proofs.Staying.{at_producer_same, at_producer_then}
use Rattle.desk_room.proofs.keepers.Keeper.order_all.Goals as goal

pub loop-ordered-init : goal.loop-ordered-init
loop-ordered-init c = record {
  ordered = ordering_none (lists c.args.self.now);
  fewer = omega (arith, c.waiting-waiting.ensures);
  places = omega arith;
  ends = at_producer_same c.args.self.now;
  before = c.if-self.false;
  home = c.if-self.false;
}

pub loop-ordered-preserved : goal.loop-ordered-preserved
loop-ordered-preserved c =
    let i = c.loop-ordered.invariant in
    let e = c.order_one.ensures in
    let tried = rw c.in-Ordered.is at e.tried in
    record {
      ordered = ordering_then _ _ _ _ _ i.ordered tried.0;
      fewer = omega (arith, i.fewer, tried.1);
      places = omega (arith, i.places, e.places);
      ends = at_producer_then _ _ _ i.ends e.ends;
      before = i.before;
      home = e.ends.home ∙ i.home;
    }
