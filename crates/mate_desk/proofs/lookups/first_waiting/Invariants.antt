use Rattle.std.proofs.Common.{◌≡◌, take}
use Rattle.mate_desk.specs.Content.{lowest}
use Rattle.mate_desk.proofs.Joined.{joined, StandsAt}
use Rattle.mate_desk.proofs.lookups.first_waiting.Given as goal

abbrev pub invariant-loop-s : goal.invariant-loop-s
invariant-loop-s l = record {
  least : lowest (joined (take l.s l.queues)) ≡ l.least;
  first : StandsAt l.queues l.s l.first l.least;
}
