use Rattle.std.proofs.Common.{arith, refl, ◌∙◌}
use Rattle.desk_room.specs.Keepers.{lists}
use Rattle.desk_room.proofs.Fewness.{gain_none, gain_more, gain_all}
use Rattle.desk_room.proofs.Runs.{giving_none, giving_then}
use Rattle.desk_room.proofs.Served.{served_more}
use Rattle.desk_room.proofs.Staying.{at_lines_same, at_lines_then}
use Rattle.desk_room.proofs.keepers.Keeper.give_all.Goals as goal

pub loop-n-preserved : goal.loop-n-preserved
loop-n-preserved c =
    let i = c.loop-n.invariant in
    let e = c.give_answers-delivered.ensures in
    record {
      gave = giving_then _ _ _ _ _ i.gave e.gave;
      few = omega (arith, i.few, e.few, c.loop-n.self.small);
      gained = gain_more c.loop-n.n c.args.self.now.ring (lists c.args.self.now).put (lists c.loop-n.self).put
          (lists c.give_answers-delivered.new.self).put i.gained e.untouched (omega (arith, e.longer, i.ends.stays.ring));
      served = served_more c.loop-n.n c.loop-n.self c.give_answers-delivered.new.self i.served e.others e.served;
      known = e.known ∙ i.known;
      ends = at_lines_then _ _ _ i.ends e.ends;
    }

pub loop-n-init : goal.loop-n-init
loop-n-init c =
    let k = c.args.self.now in
    record {
      gave = giving_none (lists k);
      few = omega arith;
      gained = gain_none k.ring (lists k).put;
      served = λ i below. absurd (omega (arith, below));
      known = refl;
      ends = at_lines_same k;
    }

pub returns-clause-few : goal.returns-clause-few
returns-clause-few c = gain_all _ _ _ _ c.loop-n.invariant.gained

pub returns-clause-served : goal.returns-clause-served
returns-clause-served c = λ n below. c.loop-n.invariant.served n (omega (arith, below, c.loop-n-test.false, c.loop-n.invariant.ends.stays.windows, c.len-n-end.ensures))
