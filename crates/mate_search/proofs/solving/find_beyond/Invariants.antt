use Rattle.std.proofs.Common.{◌≡◌, None}
use Rattle.mate_search.specs.inside.Findings.{IsBlank}
use Rattle.mate_search.specs.inside.Truth.{dist, first_moves}
use Rattle.mate_search.proofs.solving.find_beyond.Given as goal

-- no mate so far
abbrev pub invariant-loop-k : goal.invariant-loop-k
invariant-loop-k g l = record {
  none : dist (first_moves l.problem) l.problem.position l.k ≡ None;
  blank : IsBlank (record { keys = l.keys; pv = l.pv });
  room : l.memo.room ≡ l.fn.memo.room;
}
