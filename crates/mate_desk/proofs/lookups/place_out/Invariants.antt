use Rattle.std.proofs.Common.{◌≡◌, take, false}
use Rattle.std.specs.List.{list_any}
use Rattle.mate_jobs.specs.Jobs.{Task}
use Rattle.mate_desk.specs.Content.{is_out_with}
use Rattle.mate_desk.proofs.Joined.{joined}
use Rattle.mate_desk.proofs.lookups.place_out.Given as goal

abbrev pub invariant-loop-s : goal.invariant-loop-s
invariant-loop-s l = let task : Task = record { ticket = l.ticket; problem = l.problem } in
    list_any (is_out_with task) (joined (take l.s l.queues)) ≡ false
