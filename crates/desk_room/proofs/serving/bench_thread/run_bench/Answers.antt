use Rattle.std.proofs.Common.{[], ◌∷◌, arith}
use Rattle.room_ends.specs.declared.deque_rule.Order.TheVariants.{Solve}
use Rattle.desk_room.proofs.Heeding.{heeds_none, heeds_job, heeds_nothing, heeds_stop, heeds_back}
use Rattle.desk_room.proofs.serving.bench_thread.run_bench.Goals as goal

pub returns-in_default : goal.returns-in_default
returns-in_default g c = ([], omega arith, heeds_none _ _)

pub loop-init : goal.loop-init
loop-init g c = heeds_none _ _

pub returns-then-is_some : goal.returns-then-is_some
returns-then-is_some g c = ([], omega arith, c.loop.invariant)

pub returns-then-not-await_place : goal.returns-then-not-await_place
returns-then-not-await_place g c = (
  Solve c.in-Job.job ∷ [],
  omega arith,
  heeds_job (g.G.Gate.answers c.args.tools.now.gate.now c.args.number) c.args.bench.now c.loop.bench c.take.new.self
      c.await_place.new.bench c.in-Job.job c.loop.invariant c.in-Job.ensures.taken c.in-Job.ensures.stopped c.take.ensures.given
      c.await_place.ensures.got c.await_place.ensures.given,
)

pub loop-preserved-in-Job : goal.loop-preserved-in-Job
loop-preserved-in-Job g c = heeds_back (g.G.Gate.answers c.args.tools.now.gate.now c.args.number) c.args.bench.now
    c.await_place.new.bench c.solve_or_return.new.bench c.in-Job.job
    (heeds_job (g.G.Gate.answers c.args.tools.now.gate.now c.args.number) c.args.bench.now c.loop.bench c.take.new.self
    c.await_place.new.bench c.in-Job.job c.loop.invariant c.in-Job.ensures.taken c.in-Job.ensures.stopped c.take.ensures.given
    c.await_place.ensures.got c.await_place.ensures.given)
    c.solve_or_return.ensures.got c.solve_or_return.ensures.given

pub returns-in-Stop : goal.returns-in-Stop
returns-in-Stop g c = heeds_stop (g.G.Gate.answers c.args.tools.now.gate.now c.args.number) c.args.bench.now c.loop.bench
    c.take.new.self c.loop.invariant c.in-Stop.ensures.taken c.in-Stop.ensures.stopped c.take.ensures.given

pub loop-preserved : goal.loop-preserved
loop-preserved g c = heeds_nothing (g.G.Gate.answers c.args.tools.now.gate.now c.args.number) c.args.bench.now c.loop.bench
    c.take.new.self c.loop.invariant c.in-Nothing.ensures.taken c.in-Nothing.ensures.stopped c.take.ensures.given
