use Rattle.std.proofs.Common.{◌≡◌, ◌-◌, ◌≤◌, take, filter}
use Rattle.arrayvec.specs.ArrayVec.{array_vec_len}
use Rattle.mate_search.specs.Wins.{leaves_lost}
use Rattle.mate_search.proofs.principal_variation.push_keys.Given as goal

abbrev pub invariant-loop-m : goal.invariant-loop-m
invariant-loop-m g l = record {
  kept : l.out.items ≡ filter (leaves_lost (l.n - 1) l.root.position.now) (take l.m-index l.root.first.now);
  few : array_vec_len l.out ≤ l.m-index;
  room : l.memo.room ≡ l.fn.memo.room;
}
