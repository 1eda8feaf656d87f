use Rattle.std.proofs.Common.{◌≡◌}
use Rattle.room_ends.specs.Benches.{got, given}
use Rattle.desk_room.proofs.serving.bench_thread.await_place.Given as goal

abbrev pub invariant-loop : goal.invariant-loop
invariant-loop g l = (got l.bench ≡ got l.fn.bench) × (given l.bench ≡ given l.fn.bench)
