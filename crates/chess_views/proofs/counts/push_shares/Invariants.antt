use Rattle.std.proofs.Common.{◌≡◌, ◌++◌, ◌*◌, ◌-◌, ◌≤◌, flat_map, sum_by, take}
use Rattle.chess_views.specs.Counts.{count_behind, share_line}
use Rattle.chess_views.proofs.counts.push_shares.Given as goal

-- a count has at most 64 bits
abbrev pub invariant-loop-m : goal.invariant-loop-m
invariant-loop-m l = record {
  text : l.text.items ≡ l.fn.text.items ++ flat_map (share_line l.position (l.depth - 1)) (take l.m-index l.m-items);
  sum : l.sum ≡ sum_by (count_behind l.position (l.depth - 1)) (take l.m-index l.m-items);
  small : l.sum ≤ l.m-index * 18446744073709551615;
}
