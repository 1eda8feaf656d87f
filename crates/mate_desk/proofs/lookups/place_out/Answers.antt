use Rattle.std.proofs.Common.{arith}
use Rattle.mate_jobs.specs.Jobs.{Task}
use Rattle.mate_desk.specs.Content.{is_out_with}
use Rattle.mate_desk.proofs.Changes.{got}
use Rattle.mate_desk.proofs.Joined.{any_more}
use Rattle.mate_desk.proofs.lookups.place_out.Goals as goal

pub returns-in-Some-clause-some : goal.returns-in-Some-clause-some
returns-in-Some-clause-some c = record {
  queue = c.index-queues-s.result;
  there = got c.args.queues.now c.loop-s.s c.index-queues-s.result (omega arith) c.index-queues-s.is;
  here = c.in-Some.ensures.some;
}

pub loop-s-preserved : goal.loop-s-preserved
loop-s-preserved c =
    let task : Task = record { ticket = c.args.ticket; problem = c.args.problem.now } in
    any_more (is_out_with task) c.args.queues.now c.loop-s.s c.index-queues-s.result (got c.args.queues.now c.loop-s.s
    c.index-queues-s.result (omega arith) c.index-queues-s.is) c.loop-s.invariant c.in_default.ensures.none
