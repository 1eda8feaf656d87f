use Rattle.std.proofs.Common.{◌≡◌, take, count_by}
use Rattle.mate_desk.specs.Content.{has_task}
use Rattle.mate_desk.proofs.solved.place_of.Given as goal

abbrev pub invariant-loop-place : goal.invariant-loop-place
invariant-loop-place l = count_by (λ done. has_task done l.entry) (take l.place l.solved) ≡ 0
