use Rattle.desk_room.specs.inside.Submitters.{Collects}
use Rattle.desk_room.proofs.serving.submitters.Submitter.collect_all.Given as goal

abbrev pub invariant-loop : goal.invariant-loop
invariant-loop g l = Collects l.fn.self l.self
