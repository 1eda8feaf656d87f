use Rattle.std.proofs.Common.{◌≡◌, ◌≤◌, ◌==◌, length, drop, count_by}
use Rattle.mate_desk.proofs.held_jobs.index_of.Given as goal

-- Nothing from here on names the place.
abbrev pub invariant-loop-i : goal.invariant-loop-i
invariant-loop-i l = record { within : l.i ≤ length l.order; none : count_by (λ n. n == l.place) (drop l.i l.order) ≡ 0 }

abbrev pub decreases-loop-i : goal.decreases-loop-i
decreases-loop-i l = l.i
