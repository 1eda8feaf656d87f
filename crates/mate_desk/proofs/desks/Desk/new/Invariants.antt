use Rattle.std.proofs.Common.{◌≡◌, ◌≤◌, replicate, vec_len, vec_capacity, []}
use Rattle.mate_desk.specs.Content.{QueueValue}
use Rattle.mate_desk.proofs.desks.Desk.new.Given as goal

abbrev pub invariant-loop : goal.invariant-loop
invariant-loop l = record {
  items : l.queues.items ≡ replicate l.counter (let q : QueueValue = record { room = l.room; delivered = 0; pending = [] } in q);
  len : vec_len l.queues ≡ l.counter;
  room : l.submitters ≤ vec_capacity l.queues;
}
