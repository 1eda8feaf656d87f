use Rattle.std.proofs.Common.{arith}
use Rattle.desk_room.specs.Keepers.{lists}
use Rattle.desk_room.proofs.Fewness.{gain_none, gain_more}
use Rattle.desk_room.proofs.Runs.{hearing_none, hearing_then}
use Rattle.desk_room.proofs.Listening.{none_listened, listened_more}
use Rattle.desk_room.proofs.Staying.{at_receivers_same, at_receivers_then}
use Rattle.desk_room.proofs.keepers.Keeper.hear_all.Goals as goal

pub loop-b-preserved : goal.loop-b-preserved
loop-b-preserved c =
    let i = c.loop-b.invariant in
    let e = c.hear_from-one.ensures in
    record {
      heard = hearing_then _ _ _ _ _ _ _ _ _ i.heard e.heard;
      few = omega (arith, i.few, e.few, c.loop-b.self.small);
      gained = gain_more c.loop-b.b c.args.self.now.ring (lists c.args.self.now).heard (lists c.loop-b.self).heard
          (lists c.hear_from-one.new.self).heard i.gained e.others (omega (arith, e.longer, i.ends.stays.ring));
      listened = listened_more c.loop-b.b c.loop-b.self c.hear_from-one.new.self i.listened e.untouched e.listened;
      ends = at_receivers_then _ _ _ i.ends e.ends;
    }

pub loop-b-init : goal.loop-b-init
loop-b-init c =
    let k = c.args.self.now in
    record {
      heard = hearing_none (lists k);
      few = omega arith;
      gained = gain_none k.ring (lists k).heard;
      listened = none_listened k;
      ends = at_receivers_same k;
    }
