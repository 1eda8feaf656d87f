use Rattle.std.proofs.Common.{arith}
use Rattle.desk_room.specs.Keepers.{lists}
use Rattle.desk_room.proofs.Fewness.{gain_none, gain_more, gain_all}
use Rattle.desk_room.proofs.Runs.{taking_none, taking_then}
use Rattle.desk_room.proofs.Ahead.{read_more}
use Rattle.desk_room.proofs.Staying.{at_lines_same, at_lines_then}
use Rattle.desk_room.proofs.keepers.Keeper.take_all.Goals as goal

pub loop-n-preserved : goal.loop-n-preserved
loop-n-preserved c =
    let i = c.loop-n.invariant in
    let e = c.take_letters-one.ensures in
    record {
      took = taking_then _ _ _ _ _ _ _ _ _ i.took e.took;
      accepted = omega (arith, i.accepted, e.few.0, c.loop-n.self.small);
      byes = omega (arith, i.byes, e.few.1, c.loop-n.self.small);
      withdrawn = omega (arith, i.withdrawn, e.few.2, c.loop-n.self.small);
      gained = gain_more c.loop-n.n c.args.self.now.ring (lists c.args.self.now).taken (lists c.loop-n.self).taken
          (lists c.take_letters-one.new.self).taken i.gained e.untouched (omega (arith, e.longer, i.ends.stays.ring));
      read = read_more c.loop-n.n c.loop-n.self c.take_letters-one.new.self i.read e.others e.read;
      ends = at_lines_then _ _ _ i.ends e.ends;
    }

pub loop-n-init : goal.loop-n-init
loop-n-init c =
    let k = c.args.self.now in
    record {
      took = taking_none (lists k);
      accepted = omega arith;
      byes = omega arith;
      withdrawn = omega arith;
      gained = gain_none k.ring (lists k).taken;
      read = λ i below. absurd (omega (arith, below));
      ends = at_lines_same k;
    }

pub returns-clause-few : goal.returns-clause-few
returns-clause-few c = gain_all _ _ _ _ c.loop-n.invariant.gained

pub returns-clause-read : goal.returns-clause-read
returns-clause-read c = λ n below. c.loop-n.invariant.read n (omega (arith, below, c.loop-n-test.false, c.loop-n.invariant.ends.stays.windows, c.len-n-end.ensures))
