use Rattle.std.proofs.Common.{◌≡◌, false, take}
use Rattle.std.specs.List.{list_any}
use Rattle.mate_search.specs.RootResults.{is_on}
use Rattle.mate_search.proofs.root_results.result_on.Given as goal

-- none so far
abbrev pub invariant-loop-v : goal.invariant-loop-v
invariant-loop-v l = list_any (is_on l.m l.k) (take l.v-index l.results) ≡ false
