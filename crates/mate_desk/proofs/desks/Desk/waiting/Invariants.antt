use Rattle.std.proofs.Common.{◌≡◌, ◌≤◌, ◌*◌, take, count_by}
use Rattle.mate_desk.specs.Content.{waits}
use Rattle.mate_desk.proofs.Joined.{joined}
use Rattle.mate_desk.proofs.desks.Desk.waiting.Given as goal

abbrev pub invariant-loop-queue : goal.invariant-loop-queue
invariant-loop-queue l = record {
  waiting : l.waiting ≡ count_by waits (joined (take l.queue-index l.queue-items));
  few : l.waiting ≤ 64 * l.queue-index;
}
