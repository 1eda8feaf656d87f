use Rattle.std.proofs.Common.{[]}
use Rattle.desk_room.specs.inside.Threads.{Heeds}
use Rattle.desk_room.proofs.serving.bench_thread.run_bench.Given as goal

abbrev pub invariant-loop : goal.invariant-loop
invariant-loop g l = Heeds (g.G.Gate.answers l.fn.tools.gate.now l.fn.number) l.fn.bench l.bench []
